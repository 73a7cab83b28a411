use Rattle.std.proofs.Common.{◌≡◌, ◌+◌, ◌-◌, false, eqb, length, take, drop, None, Some, Ok, Err, sym, refl, ap, ◌∙◌, arith, false-eqb, eqb}
use Rattle.std.specs.List.{position}
use Rattle.std.proofs.lemmas.List.{drop-drop, take_rest}
use Rattle.files.specs.Lines.{pieces}
use Rattle.files.proofs.Pieces.{not_ended, one_line}
use Rattle.files.proofs.lines.LineReader.next_line.Goals as goal

pub returns-in_default : goal.returns-in_default
returns-in_default c =
    let t = c.args.self.now.text.now in
    let at = c.args.self.now.at in
    let left = take_rest t at in
    let some : false ≡ eqb (length (take (length t - at) (drop at t))) 0 = c.if-is_empty.ensures in
    let none : None ≡ position (λ x. eqb x 10) (take (length t - at) (drop at t)) = c.in_default.ensures in
    let e = not_ended c.args.self.now.file c.args.self.now.taken (drop at t) (omega (arith, false-eqb _ 0 some, ap length left)) (sym (none ∙ ap (position (λ x. eqb x 10)) left)) in
    record { line_or_fault = ap Err c.not_ended.ensures ∙ e.answer; later_lines_left = e.after; line_counted = e.count; file_kept = refl }

pub returns : goal.returns
returns c =
    let t = c.args.self.now.text.now in
    let at = c.args.self.now.at in
    let end = c.in-Some.end in
    let left = take_rest t at in
    let found : Some end ≡ position (λ x. eqb x 10) (take (length t - at) (drop at t)) = c.in-Some.ensures in
    let e = one_line c.args.self.now.file c.args.self.now.taken (drop at t) end (sym (found ∙ ap (position (λ x. eqb x 10)) left)) in
    record {
      line_or_fault = ap (λ l. Ok (Some (take end l))) left ∙ e.answer;
      later_lines_left = ap (pieces 10) (sym (drop-drop (end + 1) at t)) ∙ e.after;
      line_counted = e.count;
      file_kept = refl;
    }
