-- The tasks that an event has freed, while they are handed out and put among the ready ones.
use Rattle.std.proofs.Common.{◌≡◌, ℕ, ◌+◌, ◌≤◌, Bool, true, false, List, refl, ap, ◌∙◌, sym, subst, arith, inl, inr}
use Rattle.std.specs.Prelude.{◌&&◌, ◌||◌, ◌==◌, not}
use Rattle.std.proofs.lemmas.Bool.Decides.{eqb_tells}
use Rattle.gomp_events.specs.declared.event.Event.{Event}
use Rattle.gomp_events.specs.Tasks.{contains, is_undeferred}
use Rattle.gomp_types.proofs.Booleans.{and_left, and_right, false_of_not}
use Rattle.gomp_tasks.specs.Stands.{TasksView, Stands as TasksStand}
use Rattle.gomp_depend.specs.declared.depends.Depends.{Depends}
use Rattle.gomp_depend.specs.Stands.{Stands as DependsStand, NoneIsFreed, is_freed, waiting_count}
use Rattle.gomp_ready.specs.Ready.{ReadyView, AreOnce, with_task}
use Rattle.gomp_ready.proofs.Laws.{contains_with_task, once_with_task}

-- some of the freed tasks were handed out, and the deferred ones of them put
pub record IsPutSoFar (tasks : TasksView) (d : Depends) (r : ReadyView) (e : Depends) (s : ReadyView) : Type 0 where
  pub members : s.members ≡ r.members
  pub room : waiting_count e ≤ s.room
  pub left : (t : ℕ) → is_freed t e ≡ true → is_freed t d ≡ true
  pub stands : (h : List Event) → DependsStand d h → DependsStand e h
  pub ids : (h : List Event) → TasksStand tasks h → (t : ℕ) → (contains t s.ids || (is_freed t e && not (is_undeferred t h))) ≡ (contains t r.ids || (is_freed t d && not (is_undeferred t h)))
  pub once : AreOnce r.ids → ((t : ℕ) → is_freed t d ≡ true → contains t r.ids ≡ false) → AreOnce s.ids × ((t : ℕ) → is_freed t e ≡ true → contains t s.ids ≡ false)
  pub passed : s.passed ≡ r.passed

-- none yet
pub none_put : (tasks : TasksView) (d : Depends) (r : ReadyView) → waiting_count d ≤ r.room → IsPutSoFar tasks d r d r
none_put tasks d r room = record { members = refl; room = room; left = λ t is. is; stands = λ h st. st; ids = λ h st t. refl; once = λ once new. (once, new); passed = refl }

-- once one more was handed out
module _ (tasks : TasksView) (d : Depends) (r : ReadyView) (e next : Depends) (s : ReadyView) (t : ℕ) (is : IsPutSoFar tasks d r e s)
    (was : is_freed t e ≡ true) (rest : (u : ℕ) → is_freed u next ≡ (is_freed u e && not (t == u))) (waiting : waiting_count next + 1 ≡ waiting_count e) (stands : (h : List Event) → DependsStand e h → DependsStand next h) where
  handed_left : (u : ℕ) → is_freed u next ≡ true → is_freed u e ≡ true
  handed_left u left = and_left (is_freed u e) (not (t == u)) (sym (rest u) ∙ left)

  -- an undeferred one is not put
  pub one_left_out : ((h : List Event) → TasksStand tasks h → is_undeferred t h ≡ true) → IsPutSoFar tasks d r next s
  one_left_out undeferred = record {
    members = is.members;
    room = let room = is.room in omega (arith, room, waiting);
    left = λ u left. is.left u (handed_left u left);
    stands = λ h st. stands h (is.stands h st);
    ids = λ h st u. ap (λ (b : Bool). contains u s.ids || b) (same h st u) ∙ is.ids h st u;
    once = λ once new. let before = is.once once new in (before.0, λ u left. before.1 u (handed_left u left));
    passed = is.passed;
  }
    where
      same : (h : List Event) → TasksStand tasks h → (u : ℕ) → (is_freed u next && not (is_undeferred u h)) ≡ (is_freed u e && not (is_undeferred u h))
      same h st u = elim (eqb_tells t u) [
        | inr other ↦ rw (rest u, other.0) (ap (λ (b : Bool). b && not (is_undeferred u h)) (and_true (is_freed u e)))
        | inl here ↦
            let off : is_undeferred u h ≡ true = subst (λ (n : ℕ). is_undeferred n h ≡ true) here.1 (undeferred h st) in
            rw off (none (is_freed u next) ∙ sym (none (is_freed u e)))
      ]
        where
          and_true : (b : Bool) → (b && true) ≡ b
          and_true true = refl
          and_true false = refl

          none : (b : Bool) → (b && false) ≡ false
          none true = refl
          none false = refl

  -- a deferred one is
  pub one_put : (after : ReadyView) → after.members ≡ s.members → after.ids ≡ with_task t s.ids → after.room + 1 ≡ s.room → after.passed ≡ s.passed → ((h : List Event) → TasksStand tasks h → is_undeferred t h ≡ false) → IsPutSoFar tasks d r next after
  one_put after members put room passed deferred = record {
    members = members ∙ is.members;
    room = let before = is.room in omega (arith, before, waiting, room);
    left = λ u left. is.left u (handed_left u left);
    stands = λ h st. stands h (is.stands h st);
    ids = λ h st u. same h st u ∙ is.ids h st u;
    once = λ once new. let before = is.once once new in
        (subst (λ (ts : List ℕ). AreOnce ts) (sym put) (once_with_task t s.ids (before.1 t was) before.0), λ u left. among u ∙ away u left (before.1 u (handed_left u left)));
    passed = passed ∙ is.passed;
  }
    where
      among : (u : ℕ) → contains u after.ids ≡ (t == u || contains u s.ids)
      among u = ap (λ (ts : List ℕ). contains u ts) put ∙ contains_with_task t u s.ids

      away : (u : ℕ) → is_freed u next ≡ true → contains u s.ids ≡ false → (t == u || contains u s.ids) ≡ false
      away u left out = let other = false_of_not (t == u) (and_right (is_freed u e) (not (t == u)) (sym (rest u) ∙ left)) in rw (other, out) refl

      same : (h : List Event) → TasksStand tasks h → (u : ℕ) → (contains u after.ids || (is_freed u next && not (is_undeferred u h))) ≡ (contains u s.ids || (is_freed u e && not (is_undeferred u h)))
      same h st u = rw (among u, rest u) (elim (eqb_tells t u) [
        | inl here ↦
            let off : is_undeferred u h ≡ false = subst (λ (n : ℕ). is_undeferred n h ≡ false) here.1 (deferred h st) in
            let on : is_freed u e ≡ true = subst (λ (n : ℕ). is_freed n e ≡ true) here.1 was in
            rw (here.0, off, on) (sym (or_true (contains u s.ids)))
        | inr other ↦ rw other.0 (by (contains u s.ids) (is_freed u e) (not (is_undeferred u h)))
      ])
        where
          or_true : (b : Bool) → (b || true) ≡ true
          or_true true = refl
          or_true false = refl

          by : (a b c : Bool) → (a || ((b && true) && c)) ≡ (a || (b && c))
          by true b c = refl
          by false true c = refl
          by false false c = refl

-- at the end all were
pub all_put : (tasks : TasksView) (d : Depends) (r : ReadyView) (e : Depends) (s : ReadyView) → IsPutSoFar tasks d r e s → NoneIsFreed e → (h : List Event) → TasksStand tasks h → (t : ℕ) → contains t s.ids ≡ (contains t r.ids || (is_freed t d && not (is_undeferred t h)))
all_put tasks d r e s is none h st t = by (contains t s.ids) (is_freed t e) (not (is_undeferred t h)) (none t) ∙ is.ids h st t
  where
    by : (a b c : Bool) → b ≡ false → a ≡ (a || (b && c))
    by a true c e = absurd (cc)
    by true false c e = refl
    by false false c e = refl
