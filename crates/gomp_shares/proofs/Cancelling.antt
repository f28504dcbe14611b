-- How a member's construct cancels the loop or sections that it names: from what its member sees to its answer and its events.
use Rattle.std.proofs.Common.{◌≡◌, ℕ, Bool, true, false, List, [], ◌∷◌, ◌++◌, Option, Some, None, refl, ap, ◌∙◌, subst, zero, suc, inl, inr}
use Rattle.std.specs.Prelude.{◌&&◌}
use Rattle.std.proofs.lemmas.Bool.{cases_Bool}
use Rattle.gomp_types.specs.declared.cancel.CancelKind.{CancelKind}
use Rattle.gomp_types.specs.declared.cancel.CancelKind.TheVariants.{Loop, Sections}
use Rattle.gomp_types.specs.declared.cancel.Scope.{Scope}
use Rattle.gomp_types.specs.declared.cancel.Scope.TheVariants.{OneShare}
use Rattle.gomp_types.specs.declared.reply.Reply.TheVariants.{Cancelling}
use Rattle.gomp_types.specs.declared.shape.Shape.{Shape}
use Rattle.gomp_types.specs.declared.shape.ShareKind.{ShareKind}
use Rattle.gomp_types.specs.declared.shape.ShareKind.TheVariants as kinds
use Rattle.gomp_events.specs.declared.event.Event.{Event}
use Rattle.gomp_events.specs.declared.event.Event.TheVariants.{Cancel, Discard, See}
use Rattle.gomp_types.specs.Shapes.{is_loop, is_sections}
use Rattle.gomp_events.specs.Events.{open_share, share_number, in_kind}
use Rattle.gomp_events.specs.Cancels.{is_covered, own_cancelled, share_scope, scope_of, names_cancelled, may_be_cancelled}
use Rattle.gomp_events.specs.CancelCalls.{discards_to, tells_cancelled}
use Rattle.gomp_events.specs.Goals.{is_unstarted}
use Rattle.gomp_events.specs.Seen.{seen_of}
use Rattle.gomp_events.specs.Tasks.{tasks_created}
use Rattle.gomp_types.proofs.Booleans.{same_number, not_false, or_left, or_right}
use Rattle.gomp_types.proofs.LeastTests.{all_fail}
use Rattle.gomp_shares.specs.Calls.{in_construct, kind_in, events_cancelled, events_seen, seen_if, IsNoShareEvent}
use Rattle.gomp_shares.specs.Cancels.{cancel_place_tests, CanName}
use Rattle.gomp_shares.proofs.CancelledShares.{inside_named}

-- The share that a kind names

-- what a construct whose tests let it names
pub record Named (kind : CancelKind) (m : ℕ) (h : List Event) : Type 0 where
  pub share : ℕ × Shape
  pub inside : open_share m h ≡ Some share
  pub scope : scope_of kind m h ≡ Some (OneShare share.0)
  pub kind_is : kind_in (open_share m h) ≡ kind
  pub construct : in_construct (open_share m h) ≡ true
  pub cancellable : may_be_cancelled (open_share m h) ≡ true
  pub whether : names_cancelled kind m h ≡ own_cancelled m h

share_of_kind : (is : ShareKind → Bool) (own : Option (ℕ × Shape)) → in_kind is own ≡ true → (share : ℕ × Shape) × (own ≡ Some share) × (is share.1.kind ≡ true)
share_of_kind is None e = absurd (cc)
share_of_kind is (Some share) e = (share, refl, e)

loop_no_sections : (kind : ShareKind) → is_loop kind ≡ true → is_sections kind ≡ false
loop_no_sections kinds.Sections e = absurd (cc)
loop_no_sections _ e = refl

scope_is : (is : ShareKind → Bool) (own : Option (ℕ × Shape)) (share : ℕ × Shape) → own ≡ Some share → is share.1.kind ≡ true → share_scope (λ shape. is shape.kind) own ≡ Some (OneShare share.0)
scope_is is own share at e = rw (at, e) refl

loop_is_named : (own : Option (ℕ × Shape)) (share : ℕ × Shape) → own ≡ Some share → is_loop share.1.kind ≡ true → kind_in own ≡ Loop
loop_is_named own share at e = rw (at, loop_no_sections share.1.kind e) refl

pub named_share : (members m : ℕ) (kind : CancelKind) (h : List Event) → CanName members m kind (seen_of m h) → Named kind m h
named_share members m Loop h can =
    let tests = all_fail (cancel_place_tests Loop (seen_of m h)) can.place in
    let loop = not_false (in_kind is_loop (open_share m h)) tests.0 in
    let own = share_of_kind is_loop (open_share m h) loop in
    record {
      share = own.0;
      inside = own.1;
      scope = scope_is is_loop (open_share m h) own.0 own.1 own.2;
      kind_is = loop_is_named (open_share m h) own.0 own.1 own.2;
      construct = or_left (in_kind is_loop (open_share m h)) (in_kind is_sections (open_share m h)) loop;
      cancellable = not_false (may_be_cancelled (open_share m h)) tests.1.0;
      whether = inside_named is_loop (open_share m h) h loop;
    }
named_share members m Sections h can =
    let tests = all_fail (cancel_place_tests Sections (seen_of m h)) can.place in
    let sections = not_false (in_kind is_sections (open_share m h)) tests.0 in
    let own = share_of_kind is_sections (open_share m h) sections in
    record {
      share = own.0;
      inside = own.1;
      scope = scope_is is_sections (open_share m h) own.0 own.1 own.2;
      kind_is = rw sections refl;
      construct = or_right (in_kind is_loop (open_share m h)) (in_kind is_sections (open_share m h)) sections;
      cancellable = not_false (may_be_cancelled (open_share m h)) tests.1.0;
      whether = inside_named is_sections (open_share m h) h sections;
    }
named_share members m _ h can = absurd (let no = can.share in cc)

-- Cancelling it

-- a member's cancellation cancels the share that it is in
pub cancels_its_own : (m : ℕ) (h : List Event) (share : ℕ × Shape) → open_share m h ≡ Some share → own_cancelled m (events_cancelled m h) ≡ true
cancels_its_own m h share at = rw (at, same_number share.0) refl

-- a cancellation, with the tasks that it discards, is one for the shares
pub cancelled_stand : (Stands : List Event → Type 0) → ((h : List Event) (event : Event) → IsNoShareEvent event → Stands h → Stands (event ∷ h)) → (k m : ℕ) (scope : Scope) (before h : List Event) → Stands (Cancel m scope ∷ h) →
    Stands ((discards_to k m before ++ Cancel m scope ∷ []) ++ h)
cancelled_stand Stands aside zero m scope before h st = st
cancelled_stand Stands aside (suc k) m scope before h st =
    elim (cases_Bool (is_unstarted (suc k) before && is_covered (suc k) before)) [
      | inl e ↦ rw e (aside ((discards_to k m before ++ Cancel m scope ∷ []) ++ h) (Discard (suc k) m) tt (cancelled_stand Stands aside k m scope before h st))
      | inr e ↦ rw e (cancelled_stand Stands aside k m scope before h st)
    ]

-- and nobody changes its share
pub cancelled_inside : (k m n : ℕ) (scope : Scope) (before h : List Event) → open_share n ((discards_to k m before ++ Cancel m scope ∷ []) ++ h) ≡ open_share n h
cancelled_inside zero m n scope before h = refl
cancelled_inside (suc k) m n scope before h =
    elim (cases_Bool (is_unstarted (suc k) before && is_covered (suc k) before)) [
      | inl e ↦ rw e (cancelled_inside k m n scope before h)
      | inr e ↦ rw e (cancelled_inside k m n scope before h)
    ]

-- What the answer gives

-- of a cancellation
pub cancelled_by_clause : (m : ℕ) (Stands After : List Event → Type 0) → ((h : List Event) (event : Event) → IsNoShareEvent event → Stands h → Stands (event ∷ h)) → ((h : List Event) → Stands h → After (events_seen m h)) →
    (kind : CancelKind) (h : List Event) → Named kind m h → Stands (events_cancelled m h) → After (tells_cancelled kind true m h (Cancelling true) ++ h)
cancelled_by_clause m Stands After aside sees kind h named st =
    let number = ap share_number named.inside in
    let scope = OneShare named.share.0 in
    let given = (discards_to (tasks_created h) m (Cancel m scope ∷ h) ++ Cancel m scope ∷ []) ++ h in
    let stands = cancelled_stand Stands aside (tasks_created h) m scope (Cancel m scope ∷ h) h (rw number at st) in
    let same : kind_in (open_share m given) ≡ kind = ap kind_in (cancelled_inside (tasks_created h) m m scope (Cancel m scope ∷ h) h) ∙ named.kind_is in
    rw named.scope (subst (λ (k : CancelKind). After (See m k ∷ given)) same (sees given stands))

-- and of a question
pub told_by_share : (kind : CancelKind) (clause : Bool) (m : ℕ) (h : List Event) (cancelled : Bool) → clause ≡ false → kind_in (open_share m h) ≡ kind → tells_cancelled kind clause m h (Cancelling cancelled) ++ h ≡ seen_if cancelled m h
told_by_share kind clause m h true off same = rw (off, same) refl
told_by_share kind clause m h false off same = refl
