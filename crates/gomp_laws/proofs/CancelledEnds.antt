-- How a member leaves a loop or a sections construct that was cancelled, or of which nothing is left for it.
use Rattle.std.proofs.Common.{◌≡◌, ℕ, ◌<◌, Bool, true, false, List, [], ◌∷◌, ◌++◌, Option, Some, refl, ap, sym, subst, inl, inr}
use Rattle.std.specs.Prelude.{◌&&◌, ◌||◌, not, if◌then◌else◌}
use Rattle.gomp_types.specs.declared.cancel.CancelKind.TheVariants.{Parallel, Loop, Sections, Taskgroup}
use Rattle.gomp_types.specs.declared.shape.Shape.{Shape}
use Rattle.gomp_events.specs.declared.event.Event.{Event}
use Rattle.gomp_events.specs.declared.event.Event.TheVariants.{End, See}
use Rattle.gomp_types.specs.Shapes.{is_sections, is_copy}
use Rattle.gomp_events.specs.Events.{share_number, open_share, in_kind, in_part, has_drained}
use Rattle.gomp_types.specs.Deals.{schedule}
use Rattle.gomp_events.specs.Laws.{Always}
use Rattle.gomp_events.specs.Cancels.{same_cancel, share_cancelled, own_cancelled, names_cancelled, leaves_share}
use Rattle.gomp_types.proofs.Booleans.{or_left, not_both, same_number}
use Rattle.gomp_shares.specs.Calls.{in_construct, kind_in}
use Rattle.gomp_shares.specs.Rules.{ShareRule}
use Rattle.gomp_shares.specs.Starts.{is_drained, sees_at_end, leaves}
use Rattle.gomp_shares.proofs.SharesKeep.{member_is_inside, drained_none}
use Rattle.gomp_shares.proofs.CancelledShares.{see_rule}
use Rattle.gomp_shares.proofs.Ended.{names_a_construct}
use Rattle.gomp_laws.specs.Rules.{TeamRule, MayLeaveIn, MaySeeIn}
use Rattle.gomp_laws.proofs.HandedOn.{drained_member_holds_none, ordered_not_cancelled}
use Rattle.gomp_laws.proofs.TeamShares.{share_rules}
use Rattle.gomp_laws.proofs.Sound.{Gives, AreOwn}

-- What a member sees at the end

-- what it sees then changes nothing that no such event changes
pub sees_same : {A : Type 0} → (f : List Event → A) (m : ℕ) (h : List Event) → f (See m (kind_in (open_share m h)) ∷ h) ≡ f h → f (sees_at_end m h ++ h) ≡ f h
sees_same f m h same = by_test (own_cancelled m h && not (has_drained m h || leaves_share m h))
  where
    by_test : (b : Bool) → f ((if b then See m (kind_in (open_share m h)) ∷ [] else []) ++ h) ≡ f h
    by_test true = same
    by_test false = refl

-- it is none of the region
kind_of_share : (own : Option (ℕ × Shape)) → same_cancel (kind_in own) Parallel ≡ false
kind_of_share own = by_test (in_kind is_sections own)
  where
    by_test : (b : Bool) → same_cancel (if b then Sections else Loop) Parallel ≡ false
    by_test true = refl
    by_test false = refl

never_a_group : (own : Option (ℕ × Shape)) → same_cancel (kind_in own) Taskgroup ≡ false
never_a_group own = by_test (in_kind is_sections own)
  where
    by_test : (b : Bool) → same_cancel (if b then Sections else Loop) Taskgroup ≡ false
    by_test true = refl
    by_test false = refl

pub leaves_own : (can : Gives) (m : ℕ) (h : List Event) → AreOwn can m (leaves m h)
leaves_own can m h = (refl, by_test (own_cancelled m h && not (has_drained m h || leaves_share m h)))
  where
    by_test : (b : Bool) → AreOwn can m (if b then See m (kind_in (open_share m h)) ∷ [] else [])
    by_test true = ((refl, kind_of_share (open_share m h), never_a_group (open_share m h)), tt)
    by_test false = tt

-- Leaving

-- what is known of a member whose place lets it end its share: it is in a loop or sections, out of an ordered part
pub record MayEndShare (m : ℕ) (h : List Event) : Type 0 where
  pub share : ℕ × Shape
  pub inside : open_share m h ≡ Some share
  pub construct : in_construct (Some share) ≡ true
  pub wordless : is_copy share.1.kind ≡ false
  pub apart : in_part m h ≡ false

-- it leaves if nothing is left for it
leaves_drained : (members m : ℕ) (h : List Event) → (is : MayEndShare m h) → has_drained m h ≡ true → Always (TeamRule members) h → MayLeaveIn members is.share.0 m h
leaves_drained members m h is drained all = record {
  done = record {
    shape = is.share.1;
    inside = is.inside;
    done = inl (drained_none (schedule members) members m is.share.0 is.share.1 h (share_rules members h all) is.inside drained);
    apart = is.apart;
  };
  words = λ copies. absurd (not_both (is_copy is.share.1.kind) copies is.wordless);
  handed_on = λ ordered. drained_member_holds_none members m is.share.0 is.share.1 h all is.inside ordered drained;
}

-- or if it has seen that the share is cancelled, which is then not ordered
leaves_seen_share : (members m : ℕ) (h : List Event) → (is : MayEndShare m h) → own_cancelled m h ≡ true → leaves_share m h ≡ true → Always (TeamRule members) h → MayLeaveIn members is.share.0 m h
leaves_seen_share members m h is cancelled leaving all =
    let rules = share_rules members h all in
    let own : share_cancelled is.share.0 h ≡ true = rw is.inside at cancelled in
    let at = (member_is_inside (schedule members) members m is.share.0 is.share.1 h rules is.inside).0 in record {
      done = record { shape = is.share.1; inside = is.inside; done = inr leaving; apart = is.apart };
      words = λ copies. absurd (not_both (is_copy is.share.1.kind) copies is.wordless);
      handed_on = λ ordered. absurd (not_both (share_cancelled is.share.0 h) own (ordered_not_cancelled (schedule members) members is.share.0 is.share.1 h rules at ordered));
    }

-- it sees that first, if it has not
see_named : (members m : ℕ) (h : List Event) → ShareRule (schedule members) members (See m (kind_in (open_share m h))) h → names_cancelled (kind_in (open_share m h)) m h ≡ true
see_named members m h = by_test (in_kind is_sections (open_share m h))
  where
    by_test : (b : Bool) → ShareRule (schedule members) members (See m (if b then Sections else Loop)) h → names_cancelled (if b then Sections else Loop) m h ≡ true
    by_test true rule = rule
    by_test false rule = rule

sees_cancelled_share : (members m : ℕ) (h : List Event) → m < members → (is : MayEndShare m h) → own_cancelled m h ≡ true → MaySeeIn members m (kind_in (open_share m h)) h
sees_cancelled_share members m h lt is cancelled =
    let share = see_rule (schedule members) members m h (rw is.inside is.construct) cancelled in
    record { sees = record { member = lt; cancelled = see_named members m h share }; share = share }

pub leaves_keep : (members m : ℕ) (h : List Event) → m < members → MayEndShare m h → not (is_drained m h) ≡ false → Always (TeamRule members) h → Always (TeamRule members) (leaves m h ++ h)
leaves_keep members m h lt is drained all =
    subst (λ (i : ℕ). Always (TeamRule members) (End i m ∷ (sees_at_end m h ++ h))) (sym (ap share_number is.inside)) (by_tests (has_drained m h) (own_cancelled m h) (leaves_share m h) refl refl refl drained)
  where
    now : List Event
    now = See m (kind_in (open_share m h)) ∷ h

    by_tests : (drained cancelled leaving : Bool) → has_drained m h ≡ drained → own_cancelled m h ≡ cancelled → leaves_share m h ≡ leaving → not (drained || cancelled) ≡ false →
        Always (TeamRule members) (End is.share.0 m ∷ ((if cancelled && not (drained || leaving) then See m (kind_in (open_share m h)) ∷ [] else []) ++ h))
    by_tests true true leaving t c l some = (leaves_drained members m h is t all, all)
    by_tests true false leaving t c l some = (leaves_drained members m h is t all, all)
    by_tests false true true t c l some = (leaves_seen_share members m h is c l all, all)
    by_tests false true false t c l some =
        let saw = sees_cancelled_share members m h lt is c in
        let leaving : leaves_share m now ≡ true = or_left _ (leaves_share m h) (rw (same_number m) (names_a_construct (open_share m h))) in
        let still : own_cancelled m now ≡ true = rw is.inside (rw is.inside at c) in (
          leaves_seen_share members m now (record { share = is.share; inside = is.inside; construct = is.construct; wordless = is.wordless; apart = is.apart }) still leaving (saw, all),
          (saw, all),
        )
    by_tests false false leaving t c l some = absurd (cc)
