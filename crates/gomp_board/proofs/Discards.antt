-- The discards of a cancellation: what each leaves of the others, and that together they leave no task that nobody has started and that a cancellation reaches.
use Rattle.std.proofs.Common.{◌≡◌, ℕ, ◌+◌, ◌<◌, ◌≤◌, Bool, true, false, List, [], ◌∷◌, ◌++◌, refl, ◌∙◌, sym, subst, arith, suc, zero, inl, inr}
use Rattle.std.specs.Prelude.{◌&&◌, ◌==◌}
use Rattle.std.proofs.lemmas.Bool.{cases_Bool, cases_lt}
use Rattle.gomp_events.specs.declared.event.Event.{Event}
use Rattle.gomp_events.specs.declared.event.Event.TheVariants.{Discard}
use Rattle.gomp_events.specs.Tasks.{tasks_created, is_complete}
use Rattle.gomp_events.specs.Goals.{is_unstarted}
use Rattle.gomp_events.specs.Cancels.{is_covered}
use Rattle.gomp_events.specs.CancelCalls.{discards_to}
use Rattle.gomp_types.proofs.Booleans.{same_number, other_number, not_both}
use Rattle.gomp_events.proofs.OpenTasks.{created_low, created_high}
use Rattle.gomp_events.proofs.Suspended.{unstarted_is_fresh}
use Rattle.gomp_scheduler.specs.Schedulers.{AreSealed}
use Rattle.gomp_board.specs.Discards.{NoneToDiscard}
use Rattle.gomp_board.proofs.Sealed.{covered_as_before, unstarted_before}

-- the discard of one task changes nothing of another
other_unstarted : (t u m : ℕ) (h : List Event) → (t == u) ≡ false → is_unstarted u (Discard t m ∷ h) ≡ is_unstarted u h
other_unstarted t u m h other = rw other refl

-- nor do those of the tasks up to k of one with a greater number
pub later_unstarted : (k u m : ℕ) (h : List Event) → k < u → is_unstarted u (discards_to k m h ++ h) ≡ is_unstarted u h
later_unstarted zero u m h low = refl
later_unstarted (suc k) u m h low =
    let before = later_unstarted k u m h (omega (arith, low)) in
    elim (cases_Bool (is_unstarted (suc k) h && is_covered (suc k) h)) [
      | inl is ↦ rw is (other_unstarted (suc k) u m (discards_to k m h ++ h) (other_number (suc k) u (λ e. omega (arith, e, low))) ∙ before)
      | inr not_it ↦ rw not_it before
    ]

-- what a cancellation reaches they do not change
pub discards_keep_covered : (k u m : ℕ) (h : List Event) → is_covered u (discards_to k m h ++ h) ≡ is_covered u h
discards_keep_covered zero u m h = refl
discards_keep_covered (suc k) u m h =
    elim (cases_Bool (is_unstarted (suc k) h && is_covered (suc k) h)) [
      | inl is ↦ rw is (covered_as_before (Discard (suc k) m) u (discards_to k m h ++ h) tt ∙ discards_keep_covered k u m h)
      | inr not_it ↦ rw not_it (discards_keep_covered k u m h)
    ]

pub discards_keep_created : (k m : ℕ) (h : List Event) → tasks_created (discards_to k m h ++ h) ≡ tasks_created h
discards_keep_created zero m h = refl
discards_keep_created (suc k) m h =
    elim (cases_Bool (is_unstarted (suc k) h && is_covered (suc k) h)) [
      | inl is ↦ rw is (discards_keep_created k m h)
      | inr not_it ↦ rw not_it (discards_keep_created k m h)
    ]

-- of tasks that are not to be discarded none is
pub discards_of_none : (k m : ℕ) (h : List Event) → NoneToDiscard k h → discards_to k m h ≡ []
discards_of_none zero m h none = refl
discards_of_none (suc k) m h none = rw (none (suc k) (omega arith)) (discards_of_none k m h (λ t low. none t (omega (arith, low))))

-- the events of the next step, by what is seen after the steps before it
pub discards_next : (k m : ℕ) (h : List Event) → (is_unstarted (suc k) (discards_to k m h ++ h) && is_covered (suc k) (discards_to k m h ++ h)) ≡ true → Discard (suc k) m ∷ (discards_to k m h ++ h) ≡ discards_to (suc k) m h ++ h
discards_next k m h is =
    let same : (is_unstarted (suc k) h && is_covered (suc k) h) ≡ true = rw (later_unstarted k (suc k) m h (omega arith), discards_keep_covered k (suc k) m h) at is in
    rw same refl

pub discards_none : (k m : ℕ) (h : List Event) → (is_unstarted (suc k) (discards_to k m h ++ h) && is_covered (suc k) (discards_to k m h ++ h)) ≡ false → discards_to k m h ++ h ≡ discards_to (suc k) m h ++ h
discards_none k m h not_it =
    let same : (is_unstarted (suc k) h && is_covered (suc k) h) ≡ false = rw (later_unstarted k (suc k) m h (omega arith), discards_keep_covered k (suc k) m h) at not_it in
    rw same refl

-- the same of the number k + 1
pub discards_next_at : (k m : ℕ) (h : List Event) → (is_unstarted (k + 1) (discards_to k m h ++ h) && is_covered (k + 1) (discards_to k m h ++ h)) ≡ true → Discard (k + 1) m ∷ (discards_to k m h ++ h) ≡ discards_to (k + 1) m h ++ h
discards_next_at k m h =
    let e : suc k ≡ k + 1 = omega arith in
    subst (λ (n : ℕ). (is_unstarted n (discards_to k m h ++ h) && is_covered n (discards_to k m h ++ h)) ≡ true → Discard n m ∷ (discards_to k m h ++ h) ≡ discards_to n m h ++ h) e (discards_next k m h)

pub discards_none_at : (k m : ℕ) (h : List Event) → (is_unstarted (k + 1) (discards_to k m h ++ h) && is_covered (k + 1) (discards_to k m h ++ h)) ≡ false → discards_to k m h ++ h ≡ discards_to (k + 1) m h ++ h
discards_none_at k m h =
    let e : suc k ≡ k + 1 = omega arith in
    subst (λ (n : ℕ). (is_unstarted n (discards_to k m h ++ h) && is_covered n (discards_to k m h ++ h)) ≡ false → discards_to k m h ++ h ≡ discards_to n m h ++ h) e (discards_none k m h)

-- Together they leave none of the tasks up to k
discarded_is_not_unstarted : (t m : ℕ) (h : List Event) → is_unstarted t (Discard t m ∷ h) ≡ true → ⊥
discarded_is_not_unstarted t m h un = not_both (is_complete t (Discard t m ∷ h)) (rw (same_number t) refl) (unstarted_is_fresh t (Discard t m ∷ h) un).2

left_by_discards : (k t m : ℕ) (h : List Event) → 0 < t → t ≤ k → is_unstarted t (discards_to k m h ++ h) ≡ true → is_covered t h ≡ false
left_by_discards zero t m h low high un = absurd (omega (arith, low, high))
left_by_discards (suc k) t m h low high un =
    elim (cases_Bool (is_unstarted (suc k) h && is_covered (suc k) h)) [
      | inl is ↦
          let now : is_unstarted t (Discard (suc k) m ∷ (discards_to k m h ++ h)) ≡ true = rw is at un in
          elim (cases_lt t (suc k)) [
            | inl below ↦ left_by_discards k t m h low (omega (arith, below)) (unstarted_before (Discard (suc k) m) t (discards_to k m h ++ h) tt now)
            | inr past ↦ let e : t ≡ suc k = omega (arith, past, high) in absurd (discarded_is_not_unstarted (suc k) m (discards_to k m h ++ h) (subst (λ (u : ℕ). is_unstarted u (Discard (suc k) m ∷ (discards_to k m h ++ h)) ≡ true) e now))
          ]
      | inr not_it ↦
          let now : is_unstarted t (discards_to k m h ++ h) ≡ true = rw not_it at un in
          elim (cases_lt t (suc k)) [
            | inl below ↦ left_by_discards k t m h low (omega (arith, below)) now
            | inr past ↦
                let e : t ≡ suc k = omega (arith, past, high) in
                let un_last : is_unstarted (suc k) h ≡ true = sym (later_unstarted k (suc k) m h (omega arith)) ∙ subst (λ (u : ℕ). is_unstarted u (discards_to k m h ++ h) ≡ true) e now in
                subst (λ (u : ℕ). is_covered u h ≡ false) (sym e) (second_fails (is_unstarted (suc k) h) (is_covered (suc k) h) not_it un_last)
          ]
    ]
  where
    second_fails : (a b : Bool) → (a && b) ≡ false → a ≡ true → b ≡ false
    second_fails true b e is = e
    second_fails false b e is = absurd (cc)

-- so no task is left
pub discards_seal : (m : ℕ) (h : List Event) → AreSealed (discards_to (tasks_created h) m h ++ h)
discards_seal m h = λ t un.
    let created = (unstarted_is_fresh t (discards_to (tasks_created h) m h ++ h) un).0 in
    let few = discards_keep_created (tasks_created h) m h in
    let high = created_high t (discards_to (tasks_created h) m h ++ h) created in
    let low = created_low t (discards_to (tasks_created h) m h ++ h) created in
    discards_keep_covered (tasks_created h) t m h ∙ left_by_discards (tasks_created h) t m h low (omega (arith, few, high)) un
