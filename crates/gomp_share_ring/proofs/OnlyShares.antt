-- What the rule of the work-shares asks of an event, and what calls answer, the events of the shares alone tell.
use Rattle.std.proofs.Common.{◌≡◌, ℕ, Bool, List, slice_get, Option, Some, None, inl, inr, refl, sym, ap, ◌∙◌, arith}
use Rattle.std.proofs.lemmas.Bool.{cases_Bool}
use Rattle.gomp_types.specs.declared.shape.Shape.{Shape}
use Rattle.gomp_events.specs.declared.event.Event.{Event}
use Rattle.gomp_events.specs.declared.event.Event.TheVariants.{Enter, Take, Drained, End, HandOn, Part, PartEnd, Cancel, See}
use Rattle.gomp_types.specs.declared.cancel.CancelKind.TheVariants.{Parallel, Loop, Sections, Taskgroup}
use Rattle.gomp_types.specs.declared.cancel.Scope.TheVariants.{Region, OneShare, OneGroup}
use Rattle.gomp_types.specs.Shapes.{is_loop, is_sections}
use Rattle.gomp_events.specs.Events.{open_share}
use Rattle.gomp_events.specs.Ordered.{has_turn, last_number}
use Rattle.gomp_events.specs.Cancels.{share_scope, some_scope_cancelled, inside_cancelled, own_cancelled}
use Rattle.gomp_types.specs.Deals.{Queues}
use Rattle.gomp_events.specs.Takes.{next_for}
use Rattle.gomp_shares.specs.Calls.{own_turn, turn_in, was_taken}
use Rattle.gomp_shares.specs.Only.{shares_only}
use Rattle.gomp_shares.specs.Rules.{ShareRule}
use Rattle.gomp_shares.proofs.Only.{entered_only, open_only, piece_only, part_only, in_part_only, leaving_only, shape_only, taken_only, room_only, turn_only, cancelled_only}

-- the next piece for a member
pub next_only : (queues : Queues) (shape : Shape) (share m : ℕ) (h : List Event) → next_for queues shape share m (shares_only h) ≡ next_for queues shape share m h
next_only queues shape share m h = ap (slice_get (queues.queue shape (queues.queue_of shape m))) (taken_only (queues.queue_of shape) share (queues.queue_of shape m) h)

-- whether the turn is that of its piece, and the number of that
has_turn_only : (members : ℕ) (share : ℕ × Shape) (m : ℕ) (h : List Event) → has_turn members share m (shares_only h) ≡ has_turn members share m h
has_turn_only members share m h = rw (turn_only share.0 h, piece_only m h) refl

-- the number of its last piece
last_number_only : (members : ℕ) (share : ℕ × Shape) (m : ℕ) (h : List Event) → last_number members share m (shares_only h) ≡ last_number members share m h
last_number_only members share m h = rw (piece_only m h) refl

-- and so whether the turn of its own share is
pub own_turn_only : (members m : ℕ) (h : List Event) → own_turn members m (shares_only h) ≡ own_turn members m h
own_turn_only members m h = ap (λ (own : Option (ℕ × Shape)). turn_in members own m (shares_only h)) (open_only m h) ∙ by (open_share m h)
  where
    by : (own : Option (ℕ × Shape)) → turn_in members own m (shares_only h) ≡ turn_in members own m h
    by None = refl
    by (Some share) = has_turn_only members share m h

-- whether the share that it is in is cancelled
inside_only : (own : Option (ℕ × Shape)) (h : List Event) → inside_cancelled own (shares_only h) ≡ inside_cancelled own h
inside_only None h = refl
inside_only (Some share) h = cancelled_only share.0 h

-- so whether its own share is cancelled
pub own_cancelled_only : (m : ℕ) (h : List Event) → own_cancelled m (shares_only h) ≡ own_cancelled m h
own_cancelled_only m h = ap (λ (own : Option (ℕ × Shape)). inside_cancelled own (shares_only h)) (open_only m h) ∙ inside_only (open_share m h) h

-- and whether what a kind names of a share is
scope_only : (is : Shape → Bool) (own : Option (ℕ × Shape)) (h : List Event) → some_scope_cancelled (share_scope is own) (shares_only h) ≡ some_scope_cancelled (share_scope is own) h
scope_only is None h = refl
scope_only is (Some share) h = elim (cases_Bool (is share.1)) [
  | inl e ↦ rw e (cancelled_only share.0 h)
  | inr e ↦ rw e refl
]

-- or of the share that a member is in
named_only : (is : Shape → Bool) (m : ℕ) (h : List Event) → some_scope_cancelled (share_scope is (open_share m (shares_only h))) (shares_only h) ≡ some_scope_cancelled (share_scope is (open_share m h)) h
named_only is m h = ap (λ (own : Option (ℕ × Shape)). some_scope_cancelled (share_scope is own) (shares_only h)) (open_only m h) ∙ scope_only is (open_share m h) h

-- whether a piece of a share was taken
pub was_taken_only : (share : ℕ) (h : List Event) → was_taken share (shares_only h) ≡ was_taken share h
was_taken_only share h = rw (taken_only (λ m. 0) share 0 h) refl

-- so an event that keeps the rule after those of the shares alone keeps it after all
pub rule_only : (queues : Queues) (members : ℕ) (event : Event) (h : List Event) → ShareRule queues members event (shares_only h) → ShareRule queues members event h
rule_only queues members (Enter share m shape) h r = record {
  member = r.member;
  number = r.number ∙ entered_only m h;
  outside = sym (open_only m h) ∙ r.outside;
  dealt = r.dealt;
  tiles = r.tiles;
  moves = r.moves;
  ordered = r.ordered;
  unordered = r.unordered;
  same = λ other at. r.same other (shape_only share h ∙ at);
  room = sym (room_only members share h) ∙ r.room;
}
rule_only queues members (Take share m low high) h r = record {
  shape = r.shape;
  inside = sym (open_only m h) ∙ r.inside;
  next = sym (next_only queues r.shape share m h) ∙ r.next;
  apart = sym (in_part_only m h) ∙ r.apart;
}
rule_only queues members (Drained share m) h r = record {
  shape = r.shape;
  inside = sym (open_only m h) ∙ r.inside;
  none = sym (next_only queues r.shape share m h) ∙ r.none;
  apart = sym (in_part_only m h) ∙ r.apart;
}
rule_only queues members (End share m) h r = record {
  shape = r.shape;
  inside = sym (open_only m h) ∙ r.inside;
  done = elim r.done [
    | inl none ↦ inl (sym (next_only queues r.shape share m h) ∙ none)
    | inr leaving ↦ inr (sym (leaving_only m h) ∙ leaving)
  ];
  apart = sym (in_part_only m h) ∙ r.apart;
}
rule_only queues members (HandOn share m piece) h r = record {
  shape = r.shape;
  inside = sym (open_only m h) ∙ r.inside;
  ordered = r.ordered;
  apart = sym (in_part_only m h) ∙ r.apart;
  number = r.number ∙ last_number_only members (share, r.shape) m h;
  next = sym (has_turn_only members (share, r.shape) m h) ∙ r.next;
}
rule_only queues members (Part share m iteration) h r = record {
  shape = r.shape;
  inside = sym (open_only m h) ∙ r.inside;
  ordered = r.ordered;
  apart = sym (in_part_only m h) ∙ r.apart;
  next = sym (has_turn_only members (share, r.shape) m h) ∙ r.next;
  low = r.low;
  high = r.high;
  piece = sym (piece_only m h) ∙ r.piece;
  from = r.from;
  before = r.before;
  after = let part = part_only m h in let later = r.after in omega arith;
}
rule_only queues members (PartEnd share m) h r = record {
  shape = r.shape;
  inside = sym (open_only m h) ∙ r.inside;
  within = sym (in_part_only m h) ∙ r.within;
}
rule_only queues members (Cancel m (OneShare share)) h r = record {
  shape = r.shape;
  inside = sym (open_only m h) ∙ r.inside;
  cancellable = r.cancellable;
}
rule_only queues members (See m Loop) h r = sym (named_only (λ shape. is_loop shape.kind) m h) ∙ r
rule_only queues members (See m Sections) h r = sym (named_only (λ shape. is_sections shape.kind) m h) ∙ r
rule_only queues members (See m Parallel) h r = tt
rule_only queues members (See m Taskgroup) h r = tt
rule_only queues members (Cancel m Region) h r = tt
rule_only queues members (Cancel m (OneGroup group)) h r = tt
rule_only queues members _ h r = tt
