use Rattle.std.proofs.Common.{length}
use Rattle.drive.proofs.request.read_shuts.Given as goal

abbrev pub decreases-loop-words : goal.decreases-loop-words
decreases-loop-words l = length l.words
