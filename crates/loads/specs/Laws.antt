-- The laws of a load kind.
use Rattle.std.specs.Prelude.{◌≡◌, ◌^◌, ◌<◌, ◌≤◌, true, false, Some, None}
use Rattle.maps.specs.declared.road.Road.{Road}
use Rattle.loads.specs.Meaning.{Meaning}

-- what a kind answers of a value that is no load
pub record NoToAll {L : Type 0} (m : Meaning L) (f : L) : Type 0 where
  pub not_admitted : m.admits f ≡ false
  pub ranked_zero : m.rank f ≡ 0
  pub as_good_as_none : (g : L) → m.as_good f g ≡ false
  pub none_as_good : (g : L) → m.as_good g f ≡ false
  pub not_driven : (e : Road) → m.drive f e ≡ None

pub record Laws {L : Type 0} (m : Meaning L) : Type 0 where
  pub reflexive : (f : L) → m.is_load f ≡ true → m.as_good f f ≡ true
  pub transitive : (f g h : L) → m.as_good f g ≡ true → m.as_good g h ≡ true → m.as_good f h ≡ true
  pub better_ranks_no_lower : (f g : L) → m.as_good f g ≡ true → m.rank g ≤ m.rank f
  pub equal_ranks_equal_loads : (f g : L) → m.is_load f ≡ true → m.is_load g ≡ true → m.rank f ≡ m.rank g → f ≡ g
  pub better_drives_as_well : (f g g' : L) (e : Road) → m.as_good f g ≡ true → m.drive g e ≡ Some g' → (f' : L) × (m.drive f e ≡ Some f') × (m.as_good f' g' ≡ true)
  pub drive_stays_admitted : (f f' : L) (e : Road) → m.admits f ≡ true → m.drive f e ≡ Some f' → m.admits f' ≡ true
  pub drive_gives_a_load : (f f' : L) (e : Road) → m.drive f e ≡ Some f' → m.is_load f' ≡ true
  pub head_does_not_matter : (f : L) (e e' : Road) → e.seconds ≡ e'.seconds → e.draw ≡ e'.draw → m.drive f e ≡ m.drive f e'
  pub rank_below_2^63 : (f : L) → m.rank f < 2 ^ 63
  pub no_load_no_to_all : (f : L) → m.is_load f ≡ false → NoToAll m f
