-- What is known of a cancelled share, by events that keep the rule of the work-shares: who leaves it, who cancelled it, and when a member may see that.
use Rattle.std.proofs.Common.{◌≡◌, ℕ, Bool, true, false, List, [], ◌∷◌, Option, Some, None, refl, inl, inr}
use Rattle.std.specs.Prelude.{◌==◌, ◌&&◌}
use Rattle.std.proofs.lemmas.Bool.{cases_Bool}
use Rattle.gomp_types.specs.declared.cancel.CancelKind.TheVariants.{Parallel, Loop, Sections, Taskgroup}
use Rattle.gomp_types.specs.declared.cancel.Scope.{Scope}
use Rattle.gomp_types.specs.declared.cancel.Scope.TheVariants.{OneShare}
use Rattle.gomp_types.specs.declared.loop_desc.EndKind.{EndKind}
use Rattle.gomp_types.specs.declared.loop_desc.EndKind.TheVariants.{Cancellable}
use Rattle.gomp_types.specs.declared.shape.Shape.{Shape}
use Rattle.gomp_types.specs.declared.shape.ShareKind.{ShareKind}
use Rattle.gomp_events.specs.declared.event.Event.{Event}
use Rattle.gomp_events.specs.declared.event.Event.TheVariants.{Enter, End, Cancel, See}
use Rattle.gomp_types.specs.Shapes.{is_loop, is_sections, same_end}
use Rattle.gomp_events.specs.Events.{open_share, in_kind}
use Rattle.gomp_events.specs.Cancels.{same_scope, was_cancelled, share_cancelled, some_scope_cancelled, inside_cancelled, own_cancelled, share_scope, leaves_share}
use Rattle.gomp_types.specs.Deals.{Queues}
use Rattle.gomp_events.specs.Takes.{next_for}
use Rattle.gomp_events.specs.Laws.{Always, Happened}
use Rattle.gomp_shares.specs.Calls.{in_construct, kind_in}
use Rattle.gomp_shares.specs.Rules.{ShareRule, MayLeaveShare}
use Rattle.gomp_types.proofs.Booleans.{which_branch, is_equal, and_left, and_right, or_tells, or_right, not_both}
use Rattle.gomp_events.proofs.Refutations.{scopes_are_one}

-- What is cancelled stays so

pub cancelled_stays : (scope : Scope) (event : Event) (h : List Event) → was_cancelled scope h ≡ true → was_cancelled scope (event ∷ h) ≡ true
cancelled_stays scope (Cancel member other) h e = or_right (same_scope other scope) (was_cancelled scope h) e
cancelled_stays scope _ h e = e

pub not_cancelled_before : (scope : Scope) (event : Event) (h : List Event) → was_cancelled scope (event ∷ h) ≡ false → was_cancelled scope h ≡ false
not_cancelled_before scope event h e =
    elim (cases_Bool (was_cancelled scope h)) [
      | inl is ↦ absurd (not_both (was_cancelled scope (event ∷ h)) (cancelled_stays scope event h is) e)
      | inr off ↦ off
    ]

pub inside_stays_cancelled : (own : Option (ℕ × Shape)) (event : Event) (h : List Event) → inside_cancelled own h ≡ true → inside_cancelled own (event ∷ h) ≡ true
inside_stays_cancelled None event h e = absurd (cc)
inside_stays_cancelled (Some share) event h e = cancelled_stays (OneShare share.0) event h e

-- Which share a kind names

-- what a kind names among the shares is the share that the member is in
pub named_inside : (is : Shape → Bool) (own : Option (ℕ × Shape)) (h : List Event) → some_scope_cancelled (share_scope is own) h ≡ true → inside_cancelled own h ≡ true
named_inside is None h e = absurd (cc)
named_inside is (Some share) h e =
    elim (cases_Bool (is share.1)) [
      | inl named ↦ rw named at e
      | inr other ↦ absurd (let none = rw other at e in cc)
    ]

-- and the other way round, if the share is of that kind
pub inside_named : (is : ShareKind → Bool) (own : Option (ℕ × Shape)) (h : List Event) → in_kind is own ≡ true → some_scope_cancelled (share_scope (λ shape. is shape.kind) own) h ≡ inside_cancelled own h
inside_named is None h e = refl
inside_named is (Some share) h e = rw e refl

-- Members that leave

-- a member that leaves its share has seen that it is cancelled, so it is
pub leaving_is_cancelled : (queues : Queues) (members m : ℕ) (h : List Event) → Always (ShareRule queues members) h → leaves_share m h ≡ true → own_cancelled m h ≡ true
leaving_is_cancelled queues members m [] all e = absurd (cc)
leaving_is_cancelled queues members m (See member Loop ∷ earlier) all e =
    elim (or_tells (member == m && true) (leaves_share m earlier) e) [
      | inl top ↦ inside_stays_cancelled (open_share m earlier) (See member Loop) earlier (named_inside (λ shape. is_loop shape.kind) (open_share m earlier) earlier (rw (is_equal member m (and_left (member == m) true top)) at all.0))
      | inr below ↦ inside_stays_cancelled (open_share m earlier) (See member Loop) earlier (leaving_is_cancelled queues members m earlier all.1 below)
    ]
leaving_is_cancelled queues members m (See member Sections ∷ earlier) all e =
    elim (or_tells (member == m && true) (leaves_share m earlier) e) [
      | inl top ↦ inside_stays_cancelled (open_share m earlier) (See member Sections) earlier (named_inside (λ shape. is_sections shape.kind) (open_share m earlier) earlier (rw (is_equal member m (and_left (member == m) true top)) at all.0))
      | inr below ↦ inside_stays_cancelled (open_share m earlier) (See member Sections) earlier (leaving_is_cancelled queues members m earlier all.1 below)
    ]
leaving_is_cancelled queues members m (See member Parallel ∷ earlier) all e =
    elim (or_tells (member == m && false) (leaves_share m earlier) e) [
      | inl top ↦ absurd (let no = and_right (member == m) false top in cc)
      | inr below ↦ inside_stays_cancelled (open_share m earlier) (See member Parallel) earlier (leaving_is_cancelled queues members m earlier all.1 below)
    ]
leaving_is_cancelled queues members m (See member Taskgroup ∷ earlier) all e =
    elim (or_tells (member == m && false) (leaves_share m earlier) e) [
      | inl top ↦ absurd (let no = and_right (member == m) false top in cc)
      | inr below ↦ inside_stays_cancelled (open_share m earlier) (See member Taskgroup) earlier (leaving_is_cancelled queues members m earlier all.1 below)
    ]
leaving_is_cancelled queues members m (Enter share member shape ∷ earlier) all e =
    elim (which_branch (member == m) false (leaves_share m earlier) true e) [
      | inl is ↦ absurd (let no = is.1 in cc)
      | inr is ↦ rw is.0 (inside_stays_cancelled (open_share m earlier) (Enter share member shape) earlier (leaving_is_cancelled queues members m earlier all.1 is.1))
    ]
leaving_is_cancelled queues members m (End share member ∷ earlier) all e =
    elim (which_branch (member == m) false (leaves_share m earlier) true e) [
      | inl is ↦ absurd (let no = is.1 in cc)
      | inr is ↦ rw is.0 (inside_stays_cancelled (open_share m earlier) (End share member) earlier (leaving_is_cancelled queues members m earlier all.1 is.1))
    ]
leaving_is_cancelled queues members m (event ∷ earlier) all e = inside_stays_cancelled (open_share m earlier) event earlier (leaving_is_cancelled queues members m earlier all.1 e)

-- so one that leaves with a piece left leaves a cancelled share
pub none_or_cancelled : (queues : Queues) (members m i : ℕ) (h : List Event) → Always (ShareRule queues members) h → (may : MayLeaveShare queues i m h) → share_cancelled i h ≡ false → next_for queues may.shape i m h ≡ None
none_or_cancelled queues members m i h all may not_cancelled =
    elim may.done [
      | inl none ↦ none
      | inr leaving ↦ absurd (let own = leaving_is_cancelled queues members m h all leaving in not_both (share_cancelled i h) (rw may.inside at own) not_cancelled)
    ]

-- Who cancelled

-- some member did
pub cancel_stands : (scope : Scope) (h : List Event) → was_cancelled scope h ≡ true → (n : ℕ) × Happened (Cancel n scope) h
cancel_stands scope [] e = absurd (cc)
cancel_stands scope (Cancel member other ∷ earlier) e =
    elim (or_tells (same_scope other scope) (was_cancelled scope earlier) e) [
      | inl same ↦ (member, inl (rw (scopes_are_one other scope same) refl))
      | inr below ↦ let before = cancel_stands scope earlier below in (before.0, inr before.1)
    ]
cancel_stands scope (_ ∷ earlier) e = let before = cancel_stands scope earlier e in (before.0, inr before.1)

-- Calls

-- the end kind that lets a share be cancelled
pub cancellable_end : (kind : EndKind) → same_end kind Cancellable ≡ true → kind ≡ Cancellable
cancellable_end Cancellable e = refl
cancellable_end _ e = absurd (cc)

-- a member in a cancelled loop or sections may see that it is
pub see_rule : (queues : Queues) (members m : ℕ) (h : List Event) → in_construct (open_share m h) ≡ true → own_cancelled m h ≡ true → ShareRule queues members (See m (kind_in (open_share m h))) h
see_rule queues members m h inside cancelled =
    elim (cases_Bool (in_kind is_sections (open_share m h))) [
      | inl sections ↦ rw (sections, inside_named is_sections (open_share m h) h sections) cancelled
      | inr other ↦
          elim (or_tells (in_kind is_loop (open_share m h)) (in_kind is_sections (open_share m h)) inside) [
            | inl loop ↦ rw (other, inside_named is_loop (open_share m h) h loop) cancelled
            | inr sections ↦ absurd (not_both (in_kind is_sections (open_share m h)) sections other)
          ]
    ]
