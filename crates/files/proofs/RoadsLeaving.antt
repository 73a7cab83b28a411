-- What one road more makes of the roads from each junction.
use Rattle.std.proofs.Common.{◌≡◌, ℕ, ◌+◌, ◌*◌, ◌<◌, ◌≤◌, max, true, false, cond, eqb, List, [], ◌∷◌, ◌++◌, length, get_or, set, sym, ap, ◌∙◌, subst, ⊎_elim, arith, get_or-set_other, get_or-set_same, eq-eqb, ne_eqb}
use Rattle.std.proofs.lemmas.Bool.{cases_eq}
use Rattle.std.proofs.lemmas.List.{get_or_push, get_or_append_left, length_push}
use Rattle.files.specs.declared.roads.RoadLine.{RoadLine}
use Rattle.files.specs.Roads.{blank_road}
use Rattle.files.specs.RoadLaw.{leaving, junctions_named}

pub leaving_here : (v : ℕ) (rs : List RoadLine) (r : RoadLine) → r.from ≡ v → leaving v (rs ++ r ∷ []) ≡ leaving v rs ++ r ∷ []
leaving_here v [] r e = ap (λ t. cond t (r ∷ []) []) (eq-eqb _ _ e)
leaving_here v (x ∷ rs) r e =
    elim (eqb x.from v) as (λ t. cond t (x ∷ leaving v (rs ++ r ∷ [])) (leaving v (rs ++ r ∷ [])) ≡ cond t (x ∷ leaving v rs) (leaving v rs) ++ r ∷ [])
    [ true ↦ ap (λ l. x ∷ l) (leaving_here v rs r e) | false ↦ leaving_here v rs r e ]

pub leaving_other : (v : ℕ) (rs : List RoadLine) (r : RoadLine) → (r.from ≡ v → ⊥) → leaving v (rs ++ r ∷ []) ≡ leaving v rs
leaving_other v [] r n = ap (λ t. cond t (r ∷ []) []) (ne_eqb _ _ n)
leaving_other v (x ∷ rs) r n =
    elim (eqb x.from v) as (λ t. cond t (x ∷ leaving v (rs ++ r ∷ [])) (leaving v (rs ++ r ∷ [])) ≡ cond t (x ∷ leaving v rs) (leaving v rs))
    [ true ↦ ap (λ l. x ∷ l) (leaving_other v rs r n) | false ↦ leaving_other v rs r n ]

pub junctions_more : (rs : List RoadLine) (r : RoadLine) → junctions_named (rs ++ r ∷ []) ≡ max (max (junctions_named rs) (r.from + 1)) (r.to + 1)
junctions_more [] r = omega arith
junctions_more (x ∷ rs) r = let e = junctions_more rs r in omega (arith, e)

-- what holds of every road from every junction
abbrev pub Each : (RoadLine → Type 0) → List RoadLine → Type 0
Each P rs = (v k : ℕ) → k < length (leaving v rs) → P (get_or (leaving v rs) k blank_road)

module _ (rs : List RoadLine) (r : RoadLine) where
  pub grown_long : (v : ℕ) → r.from ≡ v → length (leaving v (rs ++ r ∷ [])) ≡ length (leaving v rs) + 1
  grown_long v e = ap length (leaving_here v rs r e) ∙ length_push (leaving v rs) r

  pub other_long : (v : ℕ) → (r.from ≡ v → ⊥) → length (leaving v (rs ++ r ∷ [])) ≡ length (leaving v rs)
  other_long v n = ap length (leaving_other v rs r n)

  pub newest : (v k : ℕ) → r.from ≡ v → k ≡ length (leaving v rs) → get_or (leaving v (rs ++ r ∷ [])) k blank_road ≡ r
  newest v k e l = ap (λ x. get_or x k blank_road) (leaving_here v rs r e) ∙ get_or_push (leaving v rs) r blank_road k (sym l)

  pub older : (v k : ℕ) → k < length (leaving v rs) → get_or (leaving v (rs ++ r ∷ [])) k blank_road ≡ get_or (leaving v rs) k blank_road
  older v k l = ⊎_elim
      (λ e. ap (λ x. get_or x k blank_road) (leaving_here v rs r e) ∙ get_or_append_left (leaving v rs) (r ∷ []) blank_road k l)
      (λ n. ap (λ x. get_or x k blank_road) (leaving_other v rs r n))
      (cases_eq r.from v)

  pub each_more : (P : RoadLine → Type 0) → Each P rs → P r → Each P (rs ++ r ∷ [])
  each_more P h p v k l = ⊎_elim
      (λ e. ⊎_elim
      (λ last. subst P (sym (newest v k e last)) p)
      (λ before. let inside : k < length (leaving v rs) = omega (arith, grown_long v e) in subst P (sym (older v k inside)) (h v k inside))
      (cases_eq k (length (leaving v rs))))
      (λ n. let inside : k < length (leaving v rs) = omega (arith, other_long v n) in subst P (sym (older v k inside)) (h v k inside))
      (cases_eq r.from v)

-- each entry of a table holds what its road tells
abbrev pub Entries : {X : Type 0} → ℕ → (RoadLine → X) → X → List X → List RoadLine → Type 0
Entries room told d xs rs = (v k : ℕ) → v < room → k < length (leaving v rs) → get_or xs (12 * v + k) d ≡ told (get_or (leaving v rs) k blank_road)

pub entries_more : {X : Type 0} (room : ℕ) (told : RoadLine → X) (d : X) (xs : List X) (rs : List RoadLine) (r : RoadLine) (place : ℕ) → length xs ≡ 12 * room → r.from < room → place ≡ length (leaving r.from rs) → place < 12 → ((v : ℕ) → length (leaving v rs) ≤ 12) → Entries room told d xs rs → Entries room told d (set xs (12 * r.from + place) (told r)) (rs ++ r ∷ [])
entries_more room told d xs rs r place long low here room_left few h v k lt kt = ⊎_elim
    (λ e.
    let same : place ≡ length (leaving v rs) = here ∙ ap (λ u. length (leaving u rs)) e in
    ⊎_elim
    (λ last.
    ap (λ u. get_or (set xs (12 * r.from + place) (told r)) u d) (omega (arith, same, e, last))
    ∙ get_or-set_same xs (12 * r.from + place) (told r) d (omega (arith, long))
    ∙ sym (ap told (newest rs r v k e last)))
    (λ before.
    let inside : k < length (leaving v rs) = omega (arith, grown_long rs r v e) in
    get_or-set_other xs (12 * r.from + place) (12 * v + k) (told r) d (λ q. before (omega (arith, same, e, q)))
    ∙ h v k lt inside ∙ sym (ap told (older rs r v k inside)))
    (cases_eq k (length (leaving v rs))))
    (λ n.
    let inside : k < length (leaving v rs) = omega (arith, other_long rs r v n) in
    get_or-set_other xs (12 * r.from + place) (12 * v + k) (told r) d (λ q. n (omega (arith, few v, q)))
    ∙ h v k lt inside ∙ sym (ap told (older rs r v k inside)))
    (cases_eq r.from v)
