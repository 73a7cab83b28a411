use Rattle.std.proofs.Common.{sym}
use Rattle.std.proofs.lemmas.List.{take_rest}
use Rattle.files.proofs.Pieces.{piece_cut, one_piece}
use Rattle.files.proofs.fields.cut_field.Goals as goal

pub returns-in-Some : goal.returns-in-Some
returns-in-Some c = rw take_rest (piece_cut 32 c.args.line.now c.in-Some.end (sym c.in-Some.ensures)).1

pub returns-in-None : goal.returns-in-None
returns-in-None c = one_piece 32 c.args.line.now (sym c.in-None.ensures)
