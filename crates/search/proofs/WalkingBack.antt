-- The legs of a label's walk, read back along its links.
use Rattle.std.proofs.Common.{◌≡◌, ℕ, ◌+◌, ◌<◌, ◌≤◌, List, [], ◌∷◌, ◌++◌, length, get_or, drop, set, Some, None, sym, refl, ap, ◌∙◌, subst, append_assoc, append-nil, arith}
use Rattle.std.proofs.lemmas.List.{length_push, drop-set, nil_from_length}
use Rattle.std.specs.Iterator.{Drains, YieldsThen}
use Rattle.front.specs.declared.label.Label.{Label}
use Rattle.front.specs.declared.leg.Leg.{Leg}
use Rattle.front.specs.Legs.{leg_of}
use Rattle.front.specs.Labels.{Traces, start_label, one_label_more}
use Rattle.search.specs.declared.search.trace.LegsBack.{LegsBack}
use Rattle.search.specs.WalksBack.{OneLegBack}

-- links that do not lead back trace no leg
pub no_leg : {L : Type 0} (ls : List (Label L)) (n : ℕ) (d : Label L) → n ≤ (get_or ls n d).before → (w : List (Leg L)) → Traces ls n w → w ≡ []
no_leg ls n d high w start_label = refl
no_leg ls n d high w (one_label_more j x y v p s lt f t) = absurd (omega (arith, high, lt, ap (λ (z : Label _). z.before) (s.1 d)))

-- the leg from a label to the next
abbrev leg_to : {L : Type 0} → Label L → Label L → Leg L
leg_to from here = leg_of from.arrival here.place here.arrival

-- links that lead back trace one leg more than the label before
pub last_leg : {L : Type 0} (ls : List (Label L)) (n : ℕ) (d e : Label L) → (get_or ls n d).before < n → (w : List (Leg L)) → Traces ls n w
    → (v : List (Leg L)) × Traces ls (get_or ls n d).before v × (w ≡ v ++ leg_to (get_or ls (get_or ls n d).before e) (get_or ls n d) ∷ [])
last_leg ls n d e low w start_label = absurd (omega (arith, low))
last_leg ls n d e low w (one_label_more j x y v p s lt f t) = rw (s.1 d, f.1 e) (v, t, refl)

pub ruleset one_leg_back = (no_leg, last_leg)

-- going back until no leg is left takes as many steps as the walk has legs
legs_counted : {L : Type 0} (s u : LegsBack L) (xs : List (Leg L)) → YieldsThen OneLegBack s xs None u → (w : List (Leg L)) → Traces s.labels.now s.label w → length xs ≡ length w
legs_counted s u [] (r, e, (_, none)) w t = sym (ap length (none w (subst (λ (z : LegsBack _). Traces z.labels.now z.label w) e t)))
legs_counted s u (x ∷ xs) (r, (k, (same, step), rest), last) w t =
    let (v, tv, e) = step w t in
    omega (arith, legs_counted k u xs (r, rest, last) v (subst (λ z. Traces z.now k.label v) (sym same) tv), ap length e, length_push v x)

pub counted : {L : Type 0} (s : LegsBack L) (count : ℕ) → (xs : List (Leg L)) × Drains OneLegBack s xs × (count ≡ length xs) → (w : List (Leg L)) → Traces s.labels.now s.label w → count ≡ length w
counted s count (xs, (u, ran), e) w t = e ∙ legs_counted s u xs ran w t

-- a walk of which the legs from number `end` on are written, and those before are to come
pub record Halfway {L : Type 0} (s : LegsBack L) (w : List (Leg L)) (end : ℕ) (old now : List (Leg L)) : Type 0 where
  pub ahead : List (Leg L)
  pub done : List (Leg L)
  pub whole : w ≡ ahead ++ done
  pub traces : Traces s.labels.now s.label ahead
  pub left : length ahead ≡ end
  pub written : drop end now ≡ done ++ drop (length w) old

pub none_written : {L : Type 0} (s : LegsBack L) (w : List (Leg L)) (count : ℕ) (old : List (Leg L)) → Traces s.labels.now s.label w → count ≡ length w → Halfway s w count old old
none_written s w count old t e = record { ahead = w; done = []; whole = sym (append-nil w); traces = t; left = sym e; written = ap (λ k. drop k old) e }

pub one_more_written : {L : Type 0} (s t : LegsBack L) (w : List (Leg L)) (end end' i : ℕ) (old now : List (Leg L)) (leg : Leg L)
    → end ≡ end' + 1 → i ≡ end' → end ≤ length now → OneLegBack s (Some leg) t → Halfway s w end old now → Halfway t w end' old (set now i leg)
one_more_written s t w end end' i old now leg more at fits (same, step) h =
    let (v, tv, e) = step h.ahead h.traces in
    record {
      ahead = v;
      done = leg ∷ h.done;
      whole = h.whole ∙ ap (λ x. x ++ h.done) e ∙ append_assoc v (leg ∷ []) h.done;
      traces = subst (λ z. Traces z.now t.label v) (sym same) tv;
      left = omega (arith, more, h.left, ap length e, length_push v leg);
      written = rw at (drop-set now end' leg (omega arith) ∙ ap (λ k. leg ∷ drop k now) (sym more) ∙ ap (λ x. leg ∷ x) h.written);
    }

pub all_written : {L : Type 0} (s : LegsBack L) (w : List (Leg L)) (end : ℕ) (old now : List (Leg L)) → end ≡ 0 → Halfway s w end old now → now ≡ w ++ drop (length w) old
all_written s w end old now none h =
    let start : h.ahead ≡ [] = nil_from_length h.ahead (h.left ∙ none) in
    sym (ap (λ k. drop k now) none) ∙ h.written ∙ ap (λ x. x ++ drop (length w) old) (sym (h.whole ∙ ap (λ x. x ++ h.done) start))

-- where no leg is left, all are written
pub no_leg_left : {L : Type 0} (s t : LegsBack L) (w : List (Leg L)) (end : ℕ) (old now : List (Leg L)) → OneLegBack s None t → Halfway s w end old now → now ≡ w ++ drop (length w) old
no_leg_left s t w end old now (_, none) h = all_written s w end old now (sym h.left ∙ ap length (none h.ahead h.traces)) h

pub ruleset written_back = (none_written, all_written, no_leg_left)
