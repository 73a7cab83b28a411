use Rattle.std.proofs.Common.{◌≡◌, ◌++◌, drop, vec_items}
use Rattle.walks.specs.Trial.{legs_driven, ending_of}
use Rattle.walks.proofs.trial.drive_places.Given as goal

-- what is driven from here on, after what has been driven, is the whole
abbrev pub invariant-loop-place : goal.invariant-loop-place
invariant-loop-place g l =
    (vec_items l.legs ++ legs_driven (g.M.Map.rows l.map) (g.K.Kind.meaning l.kind) l.walk.deadline l.van (drop l.place-index l.walk.places.now)
    ≡ legs_driven (g.M.Map.rows l.map) (g.K.Kind.meaning l.kind) l.walk.deadline l.initial.van l.walk.places.now)
    × (ending_of (g.M.Map.rows l.map) (g.K.Kind.meaning l.kind) l.walk.deadline l.van (drop l.place-index l.walk.places.now)
    ≡ ending_of (g.M.Map.rows l.map) (g.K.Kind.meaning l.kind) l.walk.deadline l.initial.van l.walk.places.now)
