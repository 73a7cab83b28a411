-- What a few draws make of a charge and of a profile.
use Rattle.std.proofs.Common.{◌≡◌, [], ◌∷◌, ℤ, pos, negsuc, Some, None, ap}
use Rattle.std.specs.Option.{option_map}
use Rattle.maps.specs.declared.road.Road.{Road}
use Rattle.loads.specs.Charge.{spent, charge, charges}
use Rattle.loads.specs.Profile.{profile, plain, over_draw, profiles}
use Rattle.worked.specs.SeveralRoads.{driven_over}

pub charge_500_over_600_then_minus_500_is_not_drivable : (e e' : Road) → e.draw ≡ pos 600 → e'.draw ≡ negsuc 499 → driven_over (charges 1000) (Some (charge 500)) (e ∷ e' ∷ []) ≡ None
charge_500_over_600_then_minus_500_is_not_drivable e e' p r = ap (λ (c : ℤ). driven_over (charges 1000) (option_map charge (spent 1000 500 c)) (e' ∷ [])) p

pub plain_profile_over_600 : (e : Road) → e.draw ≡ pos 600 → (profiles 1000).drive (plain 1000) e ≡ Some (profile 600 0 400)
plain_profile_over_600 e p = ap (over_draw 1000 (plain 1000)) p

pub then_over_minus_500 : (e : Road) → e.draw ≡ negsuc 499 → (profiles 1000).drive (profile 600 0 400) e ≡ Some (profile 600 500 900)
then_over_minus_500 e p = ap (over_draw 1000 (profile 600 0 400)) p

pub charge_900_over_minus_400_is_1000 : (e : Road) → e.draw ≡ negsuc 399 → (charges 1000).drive (charge 900) e ≡ Some (charge 1000)
charge_900_over_minus_400_is_1000 e p = ap (λ (c : ℤ). option_map charge (spent 1000 900 c)) p
