-- What is known between the calls of a run: the search stands for its query, and the labels at the goal are those announced.
use Rattle.std.proofs.Common.{◌≡◌, ℕ, ◌+◌, ◌<◌, ◌≤◌, Bool, true, false, cond, eqb, List, [], ◌∷◌, length, take, Some, None, Ok, Err, Option, sym, refl, ap, ◌∙◌, subst, inl, inr, ⊎_elim, true≢false, arith}
use Rattle.std.proofs.lemmas.Bool.{cases_lt, eqb-true, eqb-false}
use Rattle.refusals.specs.declared.refusal.Refusal.{Refusal}
use Rattle.maps.specs.Rows.{Rows}
use Rattle.loads.specs.Meaning.{Meaning}
use Rattle.front.specs.declared.arrival.Arrival.{Arrival}
use Rattle.front.specs.declared.label.Label.{Label}
use Rattle.front.specs.Walks.{Query}
use Rattle.front.specs.Legs.{Stored}
use Rattle.promises.specs.declared.standing.Progress.{Progress}
use Rattle.promises.specs.declared.standing.Standing.{Standing}
use Rattle.promises.specs.declared.standing.Standing.TheVariants.{Paused, Arrived, Ended, Full}
use Rattle.promises.specs.Numbers.{Numbers, Tables, AllUnchanged}
use Rattle.promises.specs.StandsFor.{StandsFor}
use Rattle.promises.specs.Refuses.{Refuses}
use Rattle.promises.specs.Begin.{begin_check, Begun, BeginPromise}
use Rattle.promises.specs.Advance.{advance_check, StandingSays, NoneAt, Advanced, AdvancedFor, AdvancePromise}
use Rattle.promises.specs.Runs.{Call, History, Promise, Run}
use Rattle.promises.specs.Runs.Run.{no_call_yet, one_call_more}
use Rattle.promises.specs.Law.{State, Since, Among, FirstOf, left_by}
use Rattle.promises.specs.Law.Since.{begun, advanced, traced, charted, begin_refused, advance_refused, left_by_other_loads}
use Rattle.promises.proofs.Records.{stored_back}
use Rattle.promises.proofs.ListedLabels.{label_0_is_the_departure}

-- what is known of a search between its calls
pub record Accounted {L : Type 0} (q : Query L) (s : Numbers) (o : State L) : Type 0 where
  pub stands : StandsFor q s o.labels o.waiting
  pub announced_is_at_the_goal : (n : ℕ) → Among o.announced n → (n < s.listed) × ((x : Label L) → Stored o.labels n x → x.arrival.junction ≡ q.goal)
  pub at_the_goal_is_announced : (i : ℕ) (x : Label L) → i < s.listed → Stored o.labels i x → x.arrival.junction ≡ q.goal → Among o.announced i
  pub first_announced_is_the_first_there : (n : ℕ) → FirstOf o.announced n → (i : ℕ) (x : Label L) → i < s.listed → Stored o.labels i x → x.arrival.junction ≡ q.goal → n ≤ i
  pub ended_means_nothing_waits : o.ended ≡ true → s.waiting ≡ 0

first_among : (ns : List ℕ) (n : ℕ) → FirstOf ns n → Among ns n
first_among [] n f = absurd f
first_among (m ∷ []) n f = inl f
first_among (m ∷ (k ∷ ns)) n f = inr (first_among (k ∷ ns) n f)

pub accounted_once_begun : {L : Type 0} (q : Query L) (v : Tables L) (s' : Numbers) (t : Standing) → Begun q v s' t → Accounted q s' (left_by v t [] false)
accounted_once_begun {L} q v s' t b = subst (λ (x : Standing). Accounted q s' (left_by v x [] false)) (sym b.arrived_exactly_when_start_is_goal) (go (eqb q.start q.goal) refl)
  where
    base : (i : ℕ) (x : Label L) → i < s'.listed → Stored v.labels_after i x → (i ≡ 0) × (x.arrival.junction ≡ q.start)
    base i x lt st =
        let z : i ≡ 0 = omega (arith, b.one_label_is_listed, lt) in
        (z, ap (λ (y : Arrival L). y.junction) (label_0_is_the_departure q s' v.labels_after v.waiting_after b.stands x (subst (λ k. Stored v.labels_after k x) z st)))

    go : (t : Bool) → eqb q.start q.goal ≡ t → Accounted q s' (left_by v (cond t (Arrived 0) Paused) [] false)
    go true e = record {
      stands = b.stands;
      announced_is_at_the_goal = λ n a. let z : 0 ≡ n = ⊎_elim (λ h. h) (λ h. absurd h) a in let lt : n < s'.listed = omega (arith, z, b.one_label_is_listed) in (lt, λ x st. (base n x lt st).1 ∙ eqb-true _ _ e);
      at_the_goal_is_announced = λ i x lt st g. inl (sym (base i x lt st).0);
      first_announced_is_the_first_there = λ n f i x lt st g. omega (arith, f);
      ended_means_nothing_waits = λ p. absurd (true≢false (sym p));
    }
    go false e = record {
      stands = b.stands;
      announced_is_at_the_goal = λ n a. absurd a;
      at_the_goal_is_announced = λ i x lt st g. absurd (eqb-false q.start q.goal e (sym (base i x lt st).1 ∙ g));
      first_announced_is_the_first_there = λ n f i x lt st g. absurd f;
      ended_means_nothing_waits = λ p. absurd (true≢false (sym p));
    }

module _ {L : Type 0} (q : Query L) (s s' : Numbers) (o : State L) (v : Tables L) (g : Accounted q s o)
    (same : v.labels ≡ o.labels) (stands : StandsFor q s' v.labels_after v.waiting_after)
    (earlier : take s.listed v.labels_after ≡ take s.listed v.labels) (grown : s.listed ≤ s'.listed) (still : s.waiting ≡ 0 → s'.waiting ≡ 0) where
  -- an earlier label is as it was
  old : (i : ℕ) (x : Label L) → i < s.listed → Stored v.labels_after i x → Stored o.labels i x
  old i x lt st = stored_back v.labels_after o.labels s.listed i x lt g.stands.listed_within_the_table (earlier ∙ ap (take s.listed) same) st

  there_old : (n : ℕ) → Among o.announced n → (n < s'.listed) × ((x : Label L) → Stored v.labels_after n x → x.arrival.junction ≡ q.goal)
  there_old n a = let (lt, at) = g.announced_is_at_the_goal n a in (omega (arith, lt, grown), λ x st. at x (old n x lt st))

  accounted_without_arrival : (e : Bool) → (e ≡ true → s'.waiting ≡ 0) → NoneAt v.labels_after s.listed s'.listed q.goal → Accounted q s' (record { labels = v.labels_after; waiting = v.waiting_after; announced = o.announced; ended = e })
  accounted_without_arrival e done none = record {
    stands = stands;
    announced_is_at_the_goal = there_old;
    at_the_goal_is_announced = λ i x lt st at. ⊎_elim (λ l. g.at_the_goal_is_announced i x l (old i x l st) at) (λ l. absurd (none i x l lt st at)) (cases_lt i s.listed);
    first_announced_is_the_first_there = λ n f i x lt st at. ⊎_elim (λ l. g.first_announced_is_the_first_there n f i x l (old i x l st) at) (λ l. absurd (none i x l lt st at)) (cases_lt i s.listed);
    ended_means_nothing_waits = done;
  }

  accounted_with_an_arrival : (m : ℕ) → s.listed ≤ m → s'.listed ≡ m + 1 → NoneAt v.labels_after s.listed m q.goal → ((x : Label L) → Stored v.labels_after m x → x.arrival.junction ≡ q.goal) → Accounted q s' (record { labels = v.labels_after; waiting = v.waiting_after; announced = m ∷ o.announced; ended = o.ended })
  accounted_with_an_arrival m from end none goal = record {
    stands = stands;
    announced_is_at_the_goal = λ n a. ⊎_elim (λ z. (omega (arith, z, end), λ x st. goal x (subst (λ k. Stored v.labels_after k x) (sym z) st))) (there_old n) a;
    at_the_goal_is_announced = λ i x lt st at. ⊎_elim (λ l. inr (g.at_the_goal_is_announced i x l (old i x l st) at)) (λ l. inl (⊎_elim (λ b. absurd (none i x l b st at)) (λ b. omega (arith, end, lt, b)) (cases_lt i m))) (cases_lt i s.listed);
    first_announced_is_the_first_there = λ n f i x lt st at. firsts o.announced refl n f i x lt st at;
    ended_means_nothing_waits = λ p. still (g.ended_means_nothing_waits p);
  }
    where
      firsts : (ns : List ℕ) → o.announced ≡ ns → (n : ℕ) → FirstOf (m ∷ ns) n → (i : ℕ) (x : Label L) → i < s'.listed → Stored v.labels_after i x → x.arrival.junction ≡ q.goal → n ≤ i
      firsts [] z n f i x lt st at = ⊎_elim (λ l. absurd (subst (λ t. Among t i) z (g.at_the_goal_is_announced i x l (old i x l st) at))) (λ l. ⊎_elim (λ b. absurd (none i x l b st at)) (λ b. omega (arith, f, b)) (cases_lt i m)) (cases_lt i s.listed)
      firsts (k ∷ ns) z n f i x lt st at =
          let f' : FirstOf o.announced n = subst (λ t. FirstOf t n) (sym z) f in
          ⊎_elim (λ l. g.first_announced_is_the_first_there n f' i x l (old i x l st) at) (λ l. omega (arith, l, (g.announced_is_at_the_goal n (first_among o.announced n f')).0)) (cases_lt i s.listed)

  accounted_as_the_standing_says : (budget : ℕ) (p : Progress) → StandingSays q budget v.labels_after s.listed s'.listed p.standing → (p.standing ≡ Ended → s'.waiting ≡ 0) → Accounted q s' (left_by v p.standing o.announced o.ended)
  accounted_as_the_standing_says budget p d over = go p.standing d over
    where
      go : (t : Standing) → StandingSays q budget v.labels_after s.listed s'.listed t → (t ≡ Ended → s'.waiting ≡ 0) → Accounted q s' (left_by v t o.announced o.ended)
      go Paused d over = accounted_without_arrival o.ended (λ p. still (g.ended_means_nothing_waits p)) d.1
      go (Arrived m) d over = accounted_with_an_arrival m d.0 d.1 d.2 d.3
      go Ended d over = accounted_without_arrival true (λ p. over refl) d.1
      go Full d over = accounted_without_arrival o.ended (λ p. still (g.ended_means_nothing_waits p)) d.1

pub accounted_once_advanced : {L : Type 0} (q : Query L) (rows : Rows) (m : Meaning L) (s s' : Numbers) (o : State L) (v : Tables L) (budget : ℕ) (p : Progress) → Accounted q s o → v.labels ≡ o.labels → Advanced rows m budget v s s' p → AdvancedFor q budget v s s' p → Accounted q s' (left_by v p.standing o.announced o.ended)
accounted_once_advanced q rows m s s' o v budget p g same go a = accounted_as_the_standing_says q s s' o v g same a.stands go.earlier_labels_untouched (omega (arith, go.counts_those_listed_now)) go.nothing_comes_to_wait_once_nothing_waits budget p a.standing_says go.nothing_waits_once_ended

pub stands_shown : {L : Type 0} (q : Query L) (s : Numbers) (o : State L) (v : Tables L) → v.labels ≡ o.labels → v.waiting ≡ o.waiting → StandsFor q s o.labels o.waiting → StandsFor q s v.labels v.waiting
stands_shown q s o v e f t = subst (λ ls. StandsFor q s ls v.waiting) (sym e) (subst (λ ws. StandsFor q s o.labels ws) (sym f) t)

none_yet : {L : Type 0} (q : Query L) (o : State L) → Since q o [] → ⊥
none_yet q o since = elim since [ ]

accepted : {A : Type 0} (check : Option Refusal) (a : A) (same : Type 0) (P : A → Type 0) → Refuses check (Ok a) same P → P a
accepted None a same P r = r
accepted (Some f) a same P r = absurd r

refused : {A : Type 0} (check : Option Refusal) (e : Refusal) (same : Type 0) (P : A → Type 0) → Refuses check (Err e) same P → same
refused None e same P r = absurd r
refused (Some f) e same P r = r.1

first_check : {L : Type 0} → Query L → Tables L → Option Refusal
first_check q t = begin_check (length q.rows) (q.kind.admits q.load) q.start q.goal q.deadline (length t.labels) (length t.waiting)

begin_accepted : {L : Type 0} (q : Query L) (t : Tables L) (s s' : Numbers) (answer : Standing) → BeginPromise q t s s' (Ok answer) → Begun q t s' answer
unfolding first_check
begin_accepted q t s s' answer r = accepted (first_check q t) answer (AllUnchanged t s s') (Begun q t s') r

begin_left_all : {L : Type 0} (q : Query L) (t : Tables L) (s s' : Numbers) (e : Refusal) → BeginPromise q t s s' (Err e) → s' ≡ s
unfolding first_check
begin_left_all q t s s' e r = (refused (first_check q t) e (AllUnchanged t s s') (Begun q t s') r).0

pub advance_accepted : {L : Type 0} (rows : Rows) (m : Meaning L) (budget : ℕ) (t : Tables L) (s s' : Numbers) (p : Progress) → AdvancePromise rows m budget t s s' (Ok p) → Advanced rows m budget t s s' p
advance_accepted rows m budget t s s' p r = accepted (advance_check s (length rows) (length t.labels) (length t.waiting) budget) p (AllUnchanged t s s') (Advanced rows m budget t s s') r

advance_left_all : {L : Type 0} (rows : Rows) (m : Meaning L) (budget : ℕ) (t : Tables L) (s s' : Numbers) (e : Refusal) → AdvancePromise rows m budget t s s' (Err e) → s' ≡ s
advance_left_all rows m budget t s s' e r = (refused (advance_check s (length rows) (length t.labels) (length t.waiting) budget) e (AllUnchanged t s s') (Advanced rows m budget t s s') r).0

accounted_after_one_call : {L : Type 0} (q : Query L) (h : History L) (c : Call L) (s s' : Numbers) (o : State L) →
    ((o' : State L) → Since q o' h → Accounted q s o') → Promise c s s' → Since q o (c ∷ h) → Accounted q s' o
accounted_after_one_call q h₀ c₀ s s' o₀ before promise (begun h t answer) = accounted_once_begun q t s' answer (begin_accepted q t s s' answer promise)
accounted_after_one_call q h₀ c₀ s s' o₀ before promise (advanced h o rows m budget t p since er em el ew) =
    let g = before o since in
    let a = advance_accepted rows m budget t s s' p promise in
    accounted_once_advanced q rows m s s' o t budget p g el a (a.for_its_query q (sym er) (sym em) (stands_shown q s o t el ew g.stands))
accounted_after_one_call q h₀ c₀ s s' o₀ before promise (traced h o n ls walk walk' r since) = subst (λ x. Accounted q x o) (sym promise.1) (before o since)
accounted_after_one_call q h₀ c₀ s s' o₀ before promise (charted h o c since) = subst (λ x. Accounted q x o) (sym promise.1) (before o since)
accounted_after_one_call q h₀ c₀ s s' o₀ before promise (begin_refused h o q' t e since) = subst (λ x. Accounted q x o) (sym (begin_left_all q' t s s' e promise)) (before o since)
accounted_after_one_call q h₀ c₀ s s' o₀ before promise (advance_refused h o rows m budget t e since) = subst (λ x. Accounted q x o) (sym (advance_left_all rows m budget t s s' e promise)) (before o since)
accounted_after_one_call q h₀ c₀ s s' o₀ before promise (left_by_other_loads h o since) = subst (λ x. Accounted q x o) (sym (promise refl)) (before o since)

pub accounted : {L : Type 0} (q : Query L) (h : History L) (s : Numbers) (o : State L) → Run h s → Since q o h → Accounted q s o
accounted q h₀ s₀ o (no_call_yet s b) since = absurd (none_yet q o since)
accounted q h₀ s₀ o (one_call_more h c s s' run promise) since = accounted_after_one_call q h c s s' o (λ o' t. accounted q h s o' run t) promise since
