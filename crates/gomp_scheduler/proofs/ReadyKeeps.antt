-- The ready tasks after each event of tasks.
use Rattle.std.proofs.Common.{◌≡◌, ℕ, Bool, true, false, List, [], ◌∷◌, refl, ap, ◌∙◌, sym, subst, arith, suc, inl, inr, ◌⊎◌}
use Rattle.std.specs.Prelude.{◌&&◌, ◌||◌, ◌==◌, nat_lt, nat_le, not, filter}
use Rattle.std.proofs.lemmas.Bool.{cases_Bool}
use Rattle.std.proofs.lemmas.Bool.Decides.{nat_tests, eqb_tells}
use Rattle.gomp_types.specs.declared.task.Task.{Task}
use Rattle.gomp_types.specs.declared.task.TaskDesc.{TaskDesc}
use Rattle.gomp_events.specs.declared.event.Event.{Event}
use Rattle.gomp_events.specs.declared.event.Event.TheVariants.{Create, Start, Done, Discard}
use Rattle.gomp_events.specs.Laws.{Always}
use Rattle.gomp_events.specs.Tasks.{contains, tasks_created, is_created, has_started, is_complete, is_undeferred, becomes_undeferred}
use Rattle.gomp_events.specs.Depends.{task_items, is_free}
use Rattle.gomp_events.specs.Goals.{is_unstarted}
use Rattle.gomp_events.specs.TaskRules.{TaskRule}
use Rattle.gomp_types.proofs.Booleans.{and_left, and_right, false_of_not, or_tells, or_left, or_right, or_false, same_number, other_number, is_equal, not_both}
use Rattle.gomp_events.proofs.Suspended.{unstarted_is_fresh, created_stays}
use Rattle.gomp_events.proofs.OpenTasks.{created_high}
use Rattle.gomp_events.proofs.TaskEvents.{newest_created}
use Rattle.gomp_events.proofs.TaskRoom.{uncreated_not_started}
use Rattle.gomp_depend.specs.declared.depends.Depends.{Depends}
use Rattle.gomp_depend.specs.Stands.{Stands as DependsStand, NoneIsFreed, IsOpen, IsFreedBy, has_items, is_free_with_items, is_freed}
use Rattle.gomp_depend.proofs.Laws.{no_items_is_free}
use Rattle.gomp_depend.proofs.TaskFacts.{uncreated_has_no_items}
use Rattle.gomp_ready.specs.Ready.{AreOnce, with_task}
use Rattle.gomp_ready.proofs.Laws.{contains_with_task, once_with_task, once_without, contains_filtered, filtered_are_once}
use Rattle.gomp_scheduler.specs.ReadyTasks.{is_listed, listed_with, was_discarded, AreReady, AreUnstarted}
use Rattle.gomp_scheduler.proofs.FreeKeeps.{free_once_created, free_once_done, started_is_free}

-- What the tests say

-- a task that is to stand there: it was created, is neither started nor complete, is deferred, and waits for no open task
pub record Listed (t : ℕ) (h : List Event) : Type 0 where
  pub created : is_created t h ≡ true
  pub unstarted : has_started t h ≡ false
  pub incomplete : is_complete t h ≡ false
  pub deferred : is_undeferred t h ≡ false
  pub free : is_free t h ≡ true

pub listed_tells : (t : ℕ) (h : List Event) → is_listed t h ≡ true → Listed t h
listed_tells t h is =
    let fresh = unstarted_is_fresh t h (and_left (is_unstarted t h) (not (is_undeferred t h) && is_free t h) is) in
    let rest = and_right (is_unstarted t h) (not (is_undeferred t h) && is_free t h) is in
    record { created = fresh.0; unstarted = fresh.1; incomplete = fresh.2; deferred = false_of_not (is_undeferred t h) (and_left (not (is_undeferred t h)) (is_free t h) rest); free = and_right (not (is_undeferred t h)) (is_free t h) rest }

pub listed_by : (t : ℕ) (h : List Event) → Listed t h → is_listed t h ≡ true
listed_by t h is = rw (is.created, is.unstarted, is.incomplete, is.deferred, is.free) refl

pub unstarted_by : (t : ℕ) (h : List Event) → is_created t h ≡ true → has_started t h ≡ false → is_complete t h ≡ false → is_unstarted t h ≡ true
unstarted_by t h made off incomplete = rw (made, off, incomplete) refl

pub discarded_tells : (t : ℕ) (h : List Event) → was_discarded t h ≡ true → (is_complete t h ≡ true) × (has_started t h ≡ false)
discarded_tells t h was = (and_left (is_complete t h) (not (has_started t h)) was, false_of_not (has_started t h) (and_right (is_complete t h) (not (has_started t h)) was))

-- a task that has items, is not complete and waits for no open task
free_tells : (t : ℕ) (h : List Event) → is_free_with_items t h ≡ true → (has_items (task_items t h) ≡ true) × (is_complete t h ≡ false) × (is_free t h ≡ true)
free_tells t h is = by (has_items (task_items t h)) (is_complete t h) (is_free t h) is
  where
    by : (a b c : Bool) → (a && not b && c) ≡ true → (a ≡ true) × (b ≡ false) × (c ≡ true)
    by true false true e = (refl, refl, refl)
    by true false false e = absurd (cc)
    by true true c e = absurd (cc)
    by false b c e = absurd (cc)

free_by : (t : ℕ) (h : List Event) → has_items (task_items t h) ≡ true → is_complete t h ≡ false → is_free t h ≡ true → is_free_with_items t h ≡ true
free_by t h items incomplete free = rw (items, incomplete, free) refl

not_free_if_held : (t : ℕ) (h : List Event) → is_free t h ≡ false → is_free_with_items t h ≡ false
not_free_if_held t h held = by (has_items (task_items t h)) (is_complete t h) (is_free t h) held
  where
    by : (a b c : Bool) → c ≡ false → (a && not b && c) ≡ false
    by a b true e = absurd (cc)
    by true true false e = refl
    by true false false e = refl
    by false b false e = refl

-- one that waits has items
pub held_has_items : (d : Depends) (t : ℕ) (h : List Event) → DependsStand d h → IsOpen t h → is_free t h ≡ false → has_items (task_items t h) ≡ true
held_has_items d t h st is held = elim (cases_Bool (has_items (task_items t h))) [
  | inl some ↦ some
  | inr none ↦ absurd (not_both (is_free t h) (no_items_is_free d t h st is none) held)
]

-- one with items was created
items_are_of_created : (d : Depends) (t : ℕ) (h : List Event) → DependsStand d h → has_items (task_items t h) ≡ true → is_created t h ≡ true
items_are_of_created d t h st items = elim (cases_Bool (is_created t h)) [
  | inl made ↦ made
  | inr unmade ↦ absurd (let none : has_items (task_items t h) ≡ false = rw (uncreated_has_no_items h st.order t unmade) refl in not_both (has_items (task_items t h)) items none)
]

-- so one that an event frees is open after it
pub free_is_open : (d : Depends) (t : ℕ) (h : List Event) → DependsStand d h → is_free_with_items t h ≡ true → IsOpen t h
free_is_open d t h st is = let tells = free_tells t h is in record { created = items_are_of_created d t h st tells.0; incomplete = tells.1 }

-- At the beginning

pub no_number : (t : ℕ) → (nat_lt 0 t && nat_le t 0) ≡ false
no_number t = grind (arith, nat_tests)

pub none_ready : AreReady [] []
none_ready = record { listed = λ t is. absurd (not_both (is_created t []) (listed_tells t [] is).created (no_number t)); ready = λ t is. absurd (cc); once = tt }

-- The tasks that an event frees

-- the event frees the task: it has items and waits for no open task after it, and did before
abbrev pub frees : ℕ → Event → List Event → Bool
frees t event h = is_free_with_items t (event ∷ h) && not (is_free_with_items t h)

-- the second tasks are the first and the deferred ones that the event frees
pub record Freed (event : Event) (h : List Event) (before after : List ℕ) : Type 0 where
  pub ids : (t : ℕ) → contains t after ≡ (contains t before || (frees t event h && not (is_undeferred t (event ∷ h))))
  pub once : AreOnce after

-- what the first ones are to be, so that these are the ready ones after the event
pub record AreReadyBut (event : Event) (h : List Event) (ids : List ℕ) : Type 0 where
  pub listed : (t : ℕ) → is_listed t (event ∷ h) ≡ true → (contains t ids ≡ true) ⊎ ((has_items (task_items t (event ∷ h)) ≡ true) × (is_free_with_items t h ≡ false))
  pub ready : (t : ℕ) → contains t ids ≡ true → (is_listed t (event ∷ h) || was_discarded t (event ∷ h)) ≡ true
  pub freed : (t : ℕ) → is_free_with_items t (event ∷ h) ≡ true → is_free_with_items t h ≡ false → is_unstarted t (event ∷ h) ≡ true

pub with_freed : (event : Event) (h : List Event) (before after : List ℕ) → AreReadyBut event h before → Freed event h before after → AreReady after (event ∷ h)
with_freed event h before after are more = record { listed = listed; ready = ready; once = more.once }
  where
    listed : (t : ℕ) → is_listed t (event ∷ h) ≡ true → contains t after ≡ true
    listed t is = more.ids t ∙ elim (are.listed t is) [
      | inl there ↦ or_left (contains t before) (frees t event h && not (is_undeferred t (event ∷ h))) there
      | inr new ↦
          let tells = listed_tells t (event ∷ h) is in
          or_right (contains t before) (frees t event h && not (is_undeferred t (event ∷ h))) (rw (free_by t (event ∷ h) new.0 tells.incomplete tells.free, new.1, tells.deferred) refl)
    ]

    ready : (t : ℕ) → contains t after ≡ true → (is_listed t (event ∷ h) || was_discarded t (event ∷ h)) ≡ true
    ready t there = elim (or_tells (contains t before) (frees t event h && not (is_undeferred t (event ∷ h))) (sym (more.ids t) ∙ there)) [
      | inl old ↦ are.ready t old
      | inr new ↦
          let frees-it = and_left (frees t event h) (not (is_undeferred t (event ∷ h))) new in
          let now = and_left (is_free_with_items t (event ∷ h)) (not (is_free_with_items t h)) frees-it in
          let was = false_of_not (is_free_with_items t h) (and_right (is_free_with_items t (event ∷ h)) (not (is_free_with_items t h)) frees-it) in
          let deferred = and_right (frees t event h) (not (is_undeferred t (event ∷ h))) new in
          or_left (is_listed t (event ∷ h)) (was_discarded t (event ∷ h)) (rw (are.freed t now was, deferred, (free_tells t (event ∷ h) now).2) refl)
    ]

-- what `put_freed` did: each deferred task that was freed was put to the others, once
pub record HasFreed (event : Event) (h : List Event) (e : Depends) (before after : List ℕ) : Type 0 where
  pub ids : (t : ℕ) → contains t after ≡ (contains t before || (is_freed t e && not (is_undeferred t (event ∷ h))))
  pub once : AreOnce before → ((t : ℕ) → is_freed t e ≡ true → contains t before ≡ false) → AreOnce after

-- if none was freed, none is put
pub none_is_put : (event : Event) (h : List Event) (e : Depends) (ids : List ℕ) → NoneIsFreed e → HasFreed event h e ids ids
none_is_put event h e ids none = record { ids = λ t. rw (none t) (by (contains t ids)); once = λ once new. once }
  where
    by : (b : Bool) → b ≡ (b || false)
    by true = refl
    by false = refl

into_freed : (event : Event) (h : List Event) (e : Depends) (before after : List ℕ) → IsFreedBy event h e → HasFreed event h e before after → AreOnce before → ((t : ℕ) → frees t event h ≡ true → contains t before ≡ false) → Freed event h before after
into_freed event h e before after freed has once new = record {
  ids = λ t. has.ids t ∙ ap (λ (b : Bool). contains t before || (b && not (is_undeferred t (event ∷ h)))) (freed t);
  once = has.once once (λ t is. new t (sym (freed t) ∙ is));
}

-- none of them stands among the others already
pub freed_is_new : (t : ℕ) (event : Event) (h : List Event) (ids : List ℕ) → AreReady ids h → (is_complete t (event ∷ h) ≡ false → is_complete t h ≡ false) → task_items t (event ∷ h) ≡ task_items t h → frees t event h ≡ true → contains t ids ≡ false
freed_is_new t event h ids are stays same frees-it = elim (cases_Bool (contains t ids)) [
  | inr away ↦ away
  | inl there ↦
      let now = free_tells t (event ∷ h) (and_left (is_free_with_items t (event ∷ h)) (not (is_free_with_items t h)) frees-it) in
      let was = false_of_not (is_free_with_items t h) (and_right (is_free_with_items t (event ∷ h)) (not (is_free_with_items t h)) frees-it) in
      let incomplete = stays now.1 in
      absurd (elim (or_tells (is_listed t h) (was_discarded t h) (are.ready t there)) [
        | inl is ↦ not_both (is_free_with_items t h) (free_by t h (sym (ap has_items same) ∙ now.0) incomplete (listed_tells t h is).free) was
        | inr over ↦ not_both (is_complete t h) (discarded_tells t h over).0 incomplete
      ])
]

-- A task is created

made_last : (u n : ℕ) → u ≡ suc n → (nat_lt 0 u && nat_le u n) ≡ false
made_last u n e = grind (arith, nat_tests, e)

pub made_before : (u n : ℕ) → (suc n == u) ≡ false → (nat_lt 0 u && nat_le u (suc n)) ≡ (nat_lt 0 u && nat_le u n)
made_before u n other = grind (arith, nat_tests, other)

pub or_nothing : (b : Bool) → (b || false) ≡ b
or_nothing true = refl
or_nothing false = refl

-- tasks to which the task was put, or was not
contains_listed : (listed : Bool) (u t : ℕ) (ids : List ℕ) → contains u (listed_with listed t ids) ≡ ((listed && (t == u)) || contains u ids)
contains_listed true u t ids = contains_with_task t u ids
contains_listed false u t ids = refl

once_listed : (listed : Bool) (t : ℕ) (ids : List ℕ) → AreOnce ids → contains t ids ≡ false → AreOnce (listed_with listed t ids)
once_listed true t ids once new = once_with_task t ids new once
once_listed false t ids once new = once

-- a task that was not created does not stand there
uncreated_is_away : (members t : ℕ) (ids : List ℕ) (h : List Event) → Always (TaskRule members) h → t ≡ suc (tasks_created h) → AreReady ids h → contains t ids ≡ false
uncreated_is_away members t ids h all number are = elim (cases_Bool (contains t ids)) [
  | inr away ↦ away
  | inl there ↦
      let new = uncreated_not_started members h all t (omega (arith, number)) in
      absurd (elim (or_tells (is_listed t h) (was_discarded t h) (are.ready t there)) [
        | inl is ↦ not_both (is_created t h) (listed_tells t h is).created (made_last t (tasks_created h) number)
        | inr over ↦ not_both (is_complete t h) (discarded_tells t h over).0 new.1
      ])
]

module _ (members t m : ℕ) (listed : Bool) (p : Task) (desc : TaskDesc) (ids : List ℕ) (h : List Event) (d e : Depends)
    (all : Always (TaskRule members) h) (number : t ≡ suc (tasks_created h)) (plain : listed ≡ (not (becomes_undeferred desc p h) && not (has_items desc.deps)))
    (before : DependsStand d h) (after : DependsStand e (Create t m p desc ∷ h)) (are : AreReady ids h) where
  -- another task is as it was
  old_listed : (u : ℕ) → (t == u) ≡ false → is_listed u (Create t m p desc ∷ h) ≡ true → (contains u ids ≡ true) ⊎ ((has_items (task_items u h) ≡ true) × (is_free_with_items u h ≡ false))
  old_listed u other is =
      let tells = listed_tells u (Create t m p desc ∷ h) is in
      let made : is_created u h ≡ true = sym (made_before u (tasks_created h) (subst (λ (n : ℕ). (n == u) ≡ false) number other)) ∙ tells.created in
      let deferred : is_undeferred u h ≡ false = rw other at tells.deferred in
      elim (cases_Bool (is_free u h)) [
        | inl free ↦ inl (are.listed u (listed_by u h (record { created = made; unstarted = tells.unstarted; incomplete = tells.incomplete; deferred = deferred; free = free })))
        | inr held ↦ inr (held_has_items d u h before (record { created = made; incomplete = tells.incomplete }) held, not_free_if_held u h held)
      ]

  old_ready : (u : ℕ) → contains u ids ≡ true → (is_listed u (Create t m p desc ∷ h) || was_discarded u (Create t m p desc ∷ h)) ≡ true
  old_ready u there = elim (or_tells (is_listed u h) (was_discarded u h) (are.ready u there)) [
    | inr over ↦ or_right (is_listed u (Create t m p desc ∷ h)) (was_discarded u h) over
    | inl is ↦
        let tells = listed_tells u h is in
        let high = created_high u h tells.created in
        let other : (t == u) ≡ false = other_number t u (λ same. omega (arith, number, same, high)) in
        let deferred : is_undeferred u (Create t m p desc ∷ h) ≡ false = rw other tells.deferred in
        or_left (is_listed u (Create t m p desc ∷ h)) (was_discarded u h) (listed_by u (Create t m p desc ∷ h)
        (record { created = created_stays u h tells.created; unstarted = tells.unstarted; incomplete = tells.incomplete; deferred = deferred; free = free_once_created members u t m p desc h all other tells.free }))
  ]

  uncreated_items : task_items t h ≡ []
  uncreated_items = uncreated_has_no_items h before.order t (made_last t (tasks_created h) number)

  new_state : (has_started t h ≡ false) × (is_complete t h ≡ false)
  new_state = uncreated_not_started members h all t (omega (arith, number))

  new_is_unstarted : is_unstarted t (Create t m p desc ∷ h) ≡ true
  new_is_unstarted = unstarted_by t (Create t m p desc ∷ h) (newest_created t h number) new_state.0 new_state.1

  created_but : AreReadyBut (Create t m p desc) h (listed_with listed t ids)
  created_but = record { listed = is_there; ready = is_ready; freed = is_freed }
    where
      is_there : (u : ℕ) → is_listed u (Create t m p desc ∷ h) ≡ true → (contains u (listed_with listed t ids) ≡ true) ⊎ ((has_items (task_items u (Create t m p desc ∷ h)) ≡ true) × (is_free_with_items u h ≡ false))
      is_there u is = elim (eqb_tells t u) [
        | inr other ↦ elim (old_listed u other.0 is) [
          | inl there ↦ inl (contains_listed listed u t ids ∙ or_right (listed && (t == u)) (contains u ids) there)
          | inr held ↦ inr (rw other.0 held)
        ]
        | inl same ↦ subst (λ (n : ℕ). is_listed n (Create t m p desc ∷ h) ≡ true → (contains n (listed_with listed t ids) ≡ true) ⊎ ((has_items (task_items n (Create t m p desc ∷ h)) ≡ true) × (is_free_with_items n h ≡ false))) same.1 here is
      ]
        where
          here : is_listed t (Create t m p desc ∷ h) ≡ true → (contains t (listed_with listed t ids) ≡ true) ⊎ ((has_items (task_items t (Create t m p desc ∷ h)) ≡ true) × (is_free_with_items t h ≡ false))
          here is =
              let self = same_number t in
              let deferred : becomes_undeferred desc p h ≡ false = rw self at (listed_tells t (Create t m p desc ∷ h) is).deferred in
              elim (cases_Bool (has_items desc.deps)) [
                | inl items ↦ inr (rw self items, rw uncreated_items refl)
                | inr none ↦ inl (let put : listed ≡ true = plain ∙ rw (deferred, none) refl in contains_listed listed t t ids ∙ rw (put, self) refl)
              ]

      is_ready : (u : ℕ) → contains u (listed_with listed t ids) ≡ true → (is_listed u (Create t m p desc ∷ h) || was_discarded u (Create t m p desc ∷ h)) ≡ true
      is_ready u there = elim (or_tells (listed && (t == u)) (contains u ids) (sym (contains_listed listed u t ids) ∙ there)) [
        | inr old ↦ old_ready u old
        | inl new ↦
            let same = is_equal t u (and_right listed (t == u) new) in
            let put = sym plain ∙ and_left listed (t == u) new in
            subst (λ (n : ℕ). (is_listed n (Create t m p desc ∷ h) || was_discarded n (Create t m p desc ∷ h)) ≡ true) same (here put)
      ]
        where
          here : (not (becomes_undeferred desc p h) && not (has_items desc.deps)) ≡ true → (is_listed t (Create t m p desc ∷ h) || was_discarded t (Create t m p desc ∷ h)) ≡ true
          here put =
              let self = same_number t in
              let deferred = false_of_not (becomes_undeferred desc p h) (and_left (not (becomes_undeferred desc p h)) (not (has_items desc.deps)) put) in
              let none = false_of_not (has_items desc.deps) (and_right (not (becomes_undeferred desc p h)) (not (has_items desc.deps)) put) in
              let bare : has_items (task_items t (Create t m p desc ∷ h)) ≡ false = rw self none in
              let late : is_undeferred t (Create t m p desc ∷ h) ≡ false = rw self deferred in
              let free = no_items_is_free e t (Create t m p desc ∷ h) after (record { created = newest_created t h number; incomplete = new_state.1 }) bare in
              or_left (is_listed t (Create t m p desc ∷ h)) (was_discarded t (Create t m p desc ∷ h)) (listed_by t (Create t m p desc ∷ h) (record { created = newest_created t h number; unstarted = new_state.0; incomplete = new_state.1; deferred = late; free = free }))

      is_freed : (u : ℕ) → is_free_with_items u (Create t m p desc ∷ h) ≡ true → is_free_with_items u h ≡ false → is_unstarted u (Create t m p desc ∷ h) ≡ true
      is_freed u now was = elim (eqb_tells t u) [
        | inl same ↦ subst (λ (n : ℕ). is_unstarted n (Create t m p desc ∷ h) ≡ true) same.1 new_is_unstarted
        | inr other ↦
            let tells = free_tells u (Create t m p desc ∷ h) now in
            let items : has_items (task_items u h) ≡ true = rw other.0 at tells.0 in
            let made = items_are_of_created e u (Create t m p desc ∷ h) after tells.0 in
            elim (cases_Bool (has_started u h)) [
              | inr off ↦ unstarted_by u (Create t m p desc ∷ h) made off tells.1
              | inl on ↦ absurd (not_both (is_free_with_items u h) (free_by u h items tells.1 (started_is_free members u h all on)) was)
            ]
      ]

  created_once : AreOnce (listed_with listed t ids)
  created_once = once_listed listed t ids are.once (uncreated_is_away members t ids h all number are)

  -- one that its creation frees is not put twice
  freed_by_creation_is_new : (u : ℕ) → frees u (Create t m p desc) h ≡ true → contains u (listed_with listed t ids) ≡ false
  freed_by_creation_is_new u frees-it = elim (eqb_tells t u) [
    | inl same ↦ subst (λ (n : ℕ). frees n (Create t m p desc) h ≡ true → contains n (listed_with listed t ids) ≡ false) same.1 here frees-it
    | inr other ↦
        let same_items : task_items u (Create t m p desc ∷ h) ≡ task_items u h = rw other.0 refl in
        contains_listed listed u t ids ∙ rw (other.0, freed_is_new u (Create t m p desc) h ids are (λ incomplete. incomplete) same_items frees-it) (by listed)
  ]
    where
      by : (b : Bool) → ((b && false) || false) ≡ false
      by true = refl
      by false = refl

      here : frees t (Create t m p desc) h ≡ true → contains t (listed_with listed t ids) ≡ false
      here frees-new =
          let self = same_number t in
          let items : has_items desc.deps ≡ true = rw self at (free_tells t (Create t m p desc ∷ h) (and_left (is_free_with_items t (Create t m p desc ∷ h)) (not (is_free_with_items t h)) frees-new)).0 in
          let put : listed ≡ false = plain ∙ rw items (none (not (becomes_undeferred desc p h))) in
          contains_listed listed t t ids ∙ rw (put, uncreated_is_away members t ids h all number are) refl
        where
          none : (b : Bool) → (b && false) ≡ false
          none true = refl
          none false = refl

  -- with what the event frees they are the ready ones
  pub created_ready : (list : List ℕ) → IsFreedBy (Create t m p desc) h e → HasFreed (Create t m p desc) h e (listed_with listed t ids) list → AreReady list (Create t m p desc ∷ h)
  created_ready list freed has = with_freed (Create t m p desc) h (listed_with listed t ids) list created_but (into_freed (Create t m p desc) h e (listed_with listed t ids) list freed has created_once freed_by_creation_is_new)

-- A task is started

-- it no longer stands there
module _ (t m : ℕ) (ids : List ℕ) (h : List Event) (are : AreReady ids h) where
  started_listed : (u : ℕ) → is_listed u (Start t m ∷ h) ≡ true → ((t == u) ≡ false) × (is_listed u h ≡ true)
  started_listed u is = elim (cases_Bool (t == u)) [
    | inl same ↦ absurd (let on : has_started u (Start t m ∷ h) ≡ true = rw same refl in not_both (has_started u (Start t m ∷ h)) on (listed_tells u (Start t m ∷ h) is).unstarted)
    | inr other ↦ (other, rw other at is)
  ]

  started_others : (u : ℕ) → (t == u) ≡ false → contains u ids ≡ true → (is_listed u (Start t m ∷ h) || was_discarded u (Start t m ∷ h)) ≡ true
  started_others u other there = rw other (are.ready u there)

  pub started_ready : (left : List ℕ) → ids ≡ with_task t left → AreReady left (Start t m ∷ h)
  started_ready left taken = record { listed = listed; ready = ready; once = apart.1 }
    where
      apart : (contains t left ≡ false) × AreOnce left
      apart = once_without t left (subst (λ (ts : List ℕ). AreOnce ts) taken are.once)

      among : (u : ℕ) → contains u ids ≡ (t == u || contains u left)
      among u = ap (λ (ts : List ℕ). contains u ts) taken ∙ contains_with_task t u left

      listed : (u : ℕ) → is_listed u (Start t m ∷ h) ≡ true → contains u left ≡ true
      listed u is = let was = started_listed u is in let other = was.0 in rw other at (sym (among u) ∙ are.listed u was.1)

      ready : (u : ℕ) → contains u left ≡ true → (is_listed u (Start t m ∷ h) || was_discarded u (Start t m ∷ h)) ≡ true
      ready u there = elim (eqb_tells t u) [
        | inl same ↦ absurd (not_both (contains u left) there (subst (λ (n : ℕ). contains n left ≡ false) same.1 apart.0))
        | inr other ↦ started_others u other.0 (among u ∙ or_right (t == u) (contains u left) there)
      ]

  -- an undeferred one never did
  pub own_started_ready : is_undeferred t h ≡ true → is_complete t h ≡ false → AreReady ids (Start t m ∷ h)
  own_started_ready undeferred incomplete = record { listed = λ u is. are.listed u (started_listed u is).1; ready = ready; once = are.once }
    where
      away : contains t ids ≡ true → ⊥
      away there = elim (or_tells (is_listed t h) (was_discarded t h) (are.ready t there)) [
        | inl is ↦ not_both (is_undeferred t h) undeferred (listed_tells t h is).deferred
        | inr over ↦ not_both (is_complete t h) (discarded_tells t h over).0 incomplete
      ]

      ready : (u : ℕ) → contains u ids ≡ true → (is_listed u (Start t m ∷ h) || was_discarded u (Start t m ∷ h)) ≡ true
      ready u there = elim (eqb_tells t u) [
        | inl same ↦ absurd (away (subst (λ (n : ℕ). contains n ids ≡ true) (sym same.1) there))
        | inr other ↦ started_others u other.0 there
      ]

-- A task is complete: it was ended, or a cancellation has discarded it

module _ (members t m : ℕ) (ids : List ℕ) (h : List Event) (d : Depends)
    (all : Always (TaskRule members) h) (before : DependsStand d h) (are : AreReady ids h) where
  ended_but : AreReadyBut (Done t m) h ids
  ended_but = record { listed = is_there; ready = is_ready; freed = is_freed }
    where
      is_there : (u : ℕ) → is_listed u (Done t m ∷ h) ≡ true → (contains u ids ≡ true) ⊎ ((has_items (task_items u h) ≡ true) × (is_free_with_items u h ≡ false))
      is_there u is =
          let tells = listed_tells u (Done t m ∷ h) is in
          let incomplete = or_false (t == u) (is_complete u h) tells.incomplete in
          elim (cases_Bool (is_free u h)) [
            | inl free ↦ inl (are.listed u (listed_by u h (record { created = tells.created; unstarted = tells.unstarted; incomplete = incomplete; deferred = tells.deferred; free = free })))
            | inr held ↦ inr (held_has_items d u h before (record { created = tells.created; incomplete = incomplete }) held, not_free_if_held u h held)
          ]

      is_ready : (u : ℕ) → contains u ids ≡ true → (is_listed u (Done t m ∷ h) || was_discarded u (Done t m ∷ h)) ≡ true
      is_ready u there = elim (or_tells (is_listed u h) (was_discarded u h) (are.ready u there)) [
        | inr over ↦ let was = discarded_tells u h over in or_right (is_listed u (Done t m ∷ h)) (was_discarded u (Done t m ∷ h)) (over_by (t == u) (is_complete u h) (has_started u h) was.0 was.1)
        | inl is ↦
            let tells = listed_tells u h is in
            elim (cases_Bool (t == u)) [
              | inl same ↦ or_right (is_listed u (Done t m ∷ h)) (was_discarded u (Done t m ∷ h)) (rw (same, tells.unstarted) refl)
              | inr other ↦
                  let incomplete : is_complete u (Done t m ∷ h) ≡ false = rw other tells.incomplete in
                  or_left (is_listed u (Done t m ∷ h)) (was_discarded u (Done t m ∷ h)) (listed_by u (Done t m ∷ h)
                  (record { created = tells.created; unstarted = tells.unstarted; incomplete = incomplete; deferred = tells.deferred; free = free_once_done members u t m h all tells.free }))
            ]
      ]
        where
          over_by : (a b c : Bool) → b ≡ true → c ≡ false → ((a || b) && not c) ≡ true
          over_by true b c over off = rw off refl
          over_by false b c over off = rw (over, off) refl

      is_freed : (u : ℕ) → is_free_with_items u (Done t m ∷ h) ≡ true → is_free_with_items u h ≡ false → is_unstarted u (Done t m ∷ h) ≡ true
      is_freed u now was =
          let tells = free_tells u (Done t m ∷ h) now in
          let made = items_are_of_created d u h before tells.0 in
          elim (cases_Bool (has_started u h)) [
            | inr off ↦ unstarted_by u (Done t m ∷ h) made off tells.1
            | inl on ↦ absurd (not_both (is_free_with_items u h) (free_by u h tells.0 (or_false (t == u) (is_complete u h) tells.1) (started_is_free members u h all on)) was)
          ]

  pub ended_ready : (e : Depends) (list : List ℕ) → IsFreedBy (Done t m) h e → HasFreed (Done t m) h e ids list → AreReady list (Done t m ∷ h)
  ended_ready e list freed has = with_freed (Done t m) h ids list ended_but (into_freed (Done t m) h e ids list freed has are.once (λ u frees-it. freed_is_new u (Done t m) h ids are (or_false (t == u) (is_complete u h)) refl frees-it))

  pub discarded_ready : (e : Depends) (list : List ℕ) → IsFreedBy (Discard t m) h e → HasFreed (Discard t m) h e ids list → AreReady list (Discard t m ∷ h)
  discarded_ready e list freed has = let as_done = ended_ready e list freed (record { ids = has.ids; once = has.once }) in record { listed = as_done.listed; ready = as_done.ready; once = as_done.once }

-- Tasks that were discarded are taken out

pub unstarted_alone_ready : (ids : List ℕ) (h : List Event) → AreReady ids h → AreReady (filter (λ (t : ℕ). is_unstarted t h) ids) h
unstarted_alone_ready ids h are = record { listed = listed; ready = ready; once = filtered_are_once (λ (t : ℕ). is_unstarted t h) ids are.once }
  where
    listed : (t : ℕ) → is_listed t h ≡ true → contains t (filter (λ (u : ℕ). is_unstarted u h) ids) ≡ true
    listed t is = contains_filtered (λ (u : ℕ). is_unstarted u h) t ids ∙ rw (are.listed t is, and_left (is_unstarted t h) (not (is_undeferred t h) && is_free t h) is) refl

    ready : (t : ℕ) → contains t (filter (λ (u : ℕ). is_unstarted u h) ids) ≡ true → (is_listed t h || was_discarded t h) ≡ true
    ready t there = are.ready t (and_left (contains t ids) (is_unstarted t h) (sym (contains_filtered (λ (u : ℕ). is_unstarted u h) t ids) ∙ there))

-- so none of them is left
pub unstarted_alone_left : (after before : List ℕ) (h : List Event) → after ≡ filter (λ (t : ℕ). is_unstarted t h) before → AreUnstarted after h
unstarted_alone_left after before h kept = λ t there. and_right (contains t before) (is_unstarted t h) (sym (contains_filtered (λ (u : ℕ). is_unstarted u h) t before) ∙ ap (λ (ts : List ℕ). contains t ts) (sym kept) ∙ there)

-- Another event

-- an event that creates, starts, ends or discards no task
abbrev pub IsNoReadyEvent : Event → Type 0
IsNoReadyEvent (Create t m parent desc) = ⊥
IsNoReadyEvent (Start t m) = ⊥
IsNoReadyEvent (Done t m) = ⊥
IsNoReadyEvent (Discard t m) = ⊥
IsNoReadyEvent _ = Unit {0}

-- changes nothing
pub aside_ready : (event : Event) (ids : List ℕ) (h : List Event) → IsNoReadyEvent event → AreReady ids h → AreReady ids (event ∷ h)
aside_ready (Create t m parent desc) ids h is are = absurd is
aside_ready (Start t m) ids h is are = absurd is
aside_ready (Done t m) ids h is are = absurd is
aside_ready (Discard t m) ids h is are = absurd is
aside_ready _ ids h is are = record { listed = are.listed; ready = are.ready; once = are.once }
