-- What the named clauses on arrivals and on tests forbid, of any shares, member, call and past.
use Rattle.std.proofs.Common.{◌≡◌, ℕ, true, false, List, ◌++◌, Option, refl}
use Rattle.std.specs.Prelude.{is_some}
use Rattle.gomp_types.specs.declared.limits.Limits.{Limits}
use Rattle.gomp_types.specs.declared.refusal.Refusal.{Refusal}
use Rattle.gomp_types.specs.Least.{least}
use Rattle.gomp_types.proofs.Booleans.{not_both}
use Rattle.gomp_events.specs.declared.event.Arrival.{Arrival}
use Rattle.gomp_events.specs.declared.event.Event.{Event}
use Rattle.gomp_events.specs.declared.seen.Seen.{Seen}
use Rattle.gomp_events.specs.Events.{shares_entered}
use Rattle.gomp_events.specs.Tags.{tag_with}
use Rattle.gomp_shares.specs.Starts.{is_drained, leaves}
use Rattle.gomp_board.specs.declared.op.Op.{Op}
use Rattle.gomp_model.specs.Past.{Past}
use Rattle.gomp_model.specs.Row.{Row}
use Rattle.gomp_dispatch.specs.declared.leaving.Leaving.{Leaving}
use Rattle.gomp_dispatch.specs.declared.leaving.Manner.{Manner}
use Rattle.gomp_dispatch.specs.Admission.{ByPlaceLeaving, EachPast, EachTested, WasPlaced}
use Rattle.gomp_dispatch.specs.Answers.{ByPlace}
use Rattle.gomp_dispatch.specs.Leaves.{LeavesAs}
use Rattle.gomp_dispatch.specs.Serves.{arrival_op, EachArrival, IsLeftOnce, IsShareDrained}

-- Arrivals

-- no arrival but by the shares that the member has entered
pub no_other_arrival : (kind : Arrival) (manner : Manner) (m : ℕ) (stand : List Event → Type 0) (P : Op → Type 0) (h : List Event) → stand h →
    (P (arrival_op manner.repeated manner.leaving.region (tag_with kind (shares_entered m h))) → ⊥) → EachArrival kind manner m stand P → ⊥
no_other_arrival kind manner m stand P h st never each = never (each h st)

-- no share of which something is left
pub no_undrained_share : {S : Type 0} (m : ℕ) (stands : S → List Event → Type 0) (shares : S) (h : List Event) → stands shares h → is_drained m h ≡ false → IsShareDrained m stands shares → ⊥
no_undrained_share m stands shares h st left drained = not_both (is_drained m h) (drained h st) left

-- a call that is made leaves its share, and one that is repeated does not
pub no_end_without_leaving : {S : Type 0} (m : ℕ) (stands : S → List Event → Type 0) (before after : S) (h : List Event) → stands before h → (stands after (leaves m h ++ h) → ⊥) → IsLeftOnce false m stands before after → ⊥
no_end_without_leaving m stands before after h st never left = never (left h st)

pub no_share_left_twice : {S : Type 0} (m : ℕ) (stands : S → List Event → Type 0) (before after : S) (h : List Event) → stands before h → (stands after h → ⊥) → IsLeftOnce true m stands before after → ⊥
no_share_left_twice m stands before after h st never left = never (left h st)

-- Tests

-- no past for which the parts stand is left out
pub no_past_left_out : (stand : List Event → Type 0) (P : Past → Type 0) (p : Past) → stand p.events → (P p → ⊥) → EachPast stand P → ⊥
no_past_left_out stand P p st never each = never (each p st)

pub no_past_left_untested : (limits : Limits) (leaving : Leaving) (m : ℕ) (stand : List Event → Type 0) (P : Past → Type 0) (p : Past) → p.terms.limits ≡ limits → stand p.events → LeavesAs leaving m p.events → (P p → ⊥) → EachTested limits leaving m stand P → ⊥
no_past_left_untested limits leaving m stand P p bounds st leaves_so never each = never (each p bounds st leaves_so)

-- no call is repeated from a place that refused it
pub no_refused_place_before : (row : Row) (limits : Limits) (seen : Seen) → row.stays ≡ true → is_some (least (row.by_place limits seen)) ≡ true → WasPlaced true row limits seen → ⊥
no_refused_place_before row limits seen stays some placed = let none = placed refl stays in let never : false ≡ true = rw none at some in absurd (cc)

-- nor is a member left out that leaves so
pub no_leaving_left_out : (leaving : Leaving) (m : ℕ) (row : Row) (limits : Limits) (seen : Seen) (found : Option Refusal) (h : List Event) → LeavesAs leaving m h → (ByPlace row limits (row.gives_up m h) seen found → ⊥) →
    ByPlaceLeaving leaving m row limits seen found → ⊥
no_leaving_left_out leaving m row limits seen found h leaves_so never by = never (by h leaves_so)
