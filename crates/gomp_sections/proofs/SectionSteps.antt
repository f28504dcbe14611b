-- A section is a piece of one iteration.
use Rattle.std.proofs.Common.{◌≡◌, ℕ, ◌+◌, ◌*◌, ◌<◌, suc, false, List, [], ◌∷◌, Option, Some, None, slice_get, refl, ap, ◌∙◌, sym, arith}
use Rattle.std.specs.Prelude.{min, not, IfSome, option_map}
use Rattle.std.specs.Int.{div_ceil}
use Rattle.std.specs.List.{range_with_len}
use Rattle.std.proofs.lemmas.Option.{slice_get-map}
use Rattle.gomp_types.specs.declared.refusal.Refusal.{Refusal}
use Rattle.gomp_types.specs.declared.reply.Reply.{Reply}
use Rattle.gomp_types.specs.declared.reply.Reply.TheVariants.{Refused, Section}
use Rattle.gomp_events.specs.declared.seen.Seen.{Seen}
use Rattle.gomp_types.specs.declared.shape.Shape.{Shape}
use Rattle.gomp_types.specs.declared.shape.ShareKind.{ShareKind}
use Rattle.gomp_types.specs.declared.shape.ShareKind.TheVariants as kinds
use Rattle.gomp_events.specs.declared.event.Event.{Event}
use Rattle.gomp_events.specs.declared.event.Event.TheVariants.{Enter}
use Rattle.gomp_types.specs.Pieces.{Piece, dynamic_piece, dynamic_pieces}
use Rattle.gomp_types.specs.Shapes.{is_sections}
use Rattle.gomp_types.specs.Deals.{schedule}
use Rattle.gomp_events.specs.Takes.{next_for}
use Rattle.gomp_events.specs.Events.{shares_entered, open_share, in_kind}
use Rattle.gomp_types.specs.Least.{least}
use Rattle.gomp_events.specs.Seen.{seen_of}
use Rattle.gomp_shares.specs.declared.Opening.TheVariants.{Entered}
use Rattle.gomp_shares.specs.Calls.{MayOpen, CanClaim, Claims, events_claimed, taken_of}
use Rattle.gomp_shares.specs.Starts.{AnswersBegin}
use Rattle.gomp_shares.proofs.Admitted.{PartInLoop, answers_let, begin_compared, in_no_part, in_some_share}
use Rattle.gomp_shares.proofs.OrWaits.{room_starts}
use Rattle.gomp_shares.specs.Sections.{AnswersSectionsNext, DealsSections, TakesSection, section_next_given, section_next_tests, sections_begun, section_next_taken}
use Rattle.gomp_sections.specs.Answers.{section_of}
use Rattle.gomp_types.proofs.Booleans.{same_number, not_false}
use Rattle.gomp_types.proofs.LeastTests.{all_fail}
use Rattle.gomp_shares.proofs.PartsKeep.{sections_away}
use Rattle.gomp_sections.proofs.Tests.{claim_entered}

-- what is given is one section, if it is any
abbrev pub IsSection : Option Piece → Type 0
IsSection answer = IfSome answer (λ piece. piece.1 ≡ suc piece.0)

section_piece : (trips n : ℕ) (piece : Piece) → slice_get (dynamic_pieces trips 1) n ≡ Some piece → piece.0 < piece.1 → piece.1 ≡ suc piece.0
section_piece trips n piece at some = by_place (slice_get (range_with_len 0 (div_ceil trips 1)) n) (sym (slice_get-map (dynamic_piece trips 1) (range_with_len 0 (div_ceil trips 1)) n) ∙ at)
  where
    by_place : (place : Option ℕ) → option_map (dynamic_piece trips 1) place ≡ Some piece → piece.1 ≡ suc piece.0
    by_place None e = absurd (cc)
    by_place (Some j) e =
        let same : dynamic_piece trips 1 j ≡ piece = let t = e in cc in
        let low : j * 1 ≡ piece.0 = ap (λ (p : Piece). p.0) same in
        let high : min trips (j * 1 + 1) ≡ piece.1 = ap (λ (p : Piece). p.1) same in
        omega arith

kind_is : (kind : ShareKind) → not (is_sections kind) ≡ false → kind ≡ kinds.Sections
kind_is kinds.Sections e = refl
kind_is kinds.StaticChunked e = absurd (cc)
kind_is kinds.StaticEven e = absurd (cc)
kind_is kinds.Dynamic e = absurd (cc)
kind_is kinds.Guided e = absurd (cc)
kind_is kinds.Single e = absurd (cc)
kind_is kinds.SingleCopy e = absurd (cc)

-- a piece of a share of sections is one section
claim_section : (members m : ℕ) (answer : Option Piece) (h : List Event) (claims : Claims members m answer h) → claims.share.1.kind ≡ kinds.Sections → IsSection answer
claim_section members m None h claims kind = tt
claim_section members m (Some piece) h claims kind =
    let at : slice_get (dynamic_pieces claims.share.1.trips 1) (taken_of claims.share.0 h) ≡ Some piece = rw kind at (sym claims.least) in
    section_piece claims.share.1.trips (taken_of claims.share.0 h) piece at claims.within.0

-- and its number is what the share deals out
section_dealt : (members m : ℕ) (share : ℕ × Shape) (answer : Option Piece) (h : List Event) → answer ≡ next_for (schedule members) share.1 share.0 m h → IsSection answer → DealsSections members m (Some share) (Section (section_of answer)) h
section_dealt members m share None h least one = sym least
section_dealt members m share (Some piece) h least one = sym least ∙ ap (λ (high : ℕ). Some (piece.0, high)) one

-- The next section

next_kind : (m : ℕ) (h : List Event) (share : ℕ × Shape) → open_share m h ≡ Some share → least (section_next_tests (seen_of m h)) ≡ None → share.1.kind ≡ kinds.Sections
next_kind m h share there none =
    let tests = all_fail (section_next_tests (seen_of m h)) none in
    kind_is share.1.kind (rw there at tests.0)

pub next_is_section : (members m : ℕ) (answer : Option Piece) (h : List Event) → Claims members m answer h → least (section_next_tests (seen_of m h)) ≡ None → IsSection answer
next_is_section members m answer h claims none = claim_section members m answer h claims (next_kind m h claims.share claims.there none)

pub section_next_dealt : (members m : ℕ) (answer : Option Piece) (h : List Event) → Claims members m answer h → least (section_next_tests (seen_of m h)) ≡ None →
    DealsSections members m (open_share m h) (Section (section_of answer)) h
section_next_dealt members m answer h claims none = rw claims.there (section_dealt members m claims.share answer h claims.least (next_is_section members m answer h claims none))

-- its taking is what the shares add
pub section_next_adds : (members m : ℕ) (answer : Option Piece) (h : List Event) → Claims members m answer h → IsSection answer → section_next_taken m (Section (section_of answer)) h ≡ events_claimed m answer h
section_next_adds members m None h claims one = rw claims.there refl
section_next_adds members m (Some piece) h claims one = rw (claims.there, one) refl

-- a member that is not refused may ask for a section, since sections have no ordered parts
pub next_may_claim : (members m : ℕ) (seen : Seen) (h : List Event) → m < members → seen ≡ seen_of m h → PartInLoop m h → least (section_next_tests (seen_of m h)) ≡ None → CanClaim members m seen
next_may_claim members m seen h lt e law none =
    let tests = all_fail (section_next_tests (seen_of m h)) none in
    let inside = not_false (in_kind is_sections (open_share m h)) tests.0 in
    record {
      member = lt;
      inside = rw e (in_some_share is_sections (open_share m h) inside);
      more = rw e tests.1.0;
      apart = rw e (in_no_part m h law (sections_away (open_share m h) inside));
    }

-- The first section

first_section : (members m i : ℕ) (shape : Shape) (answer : Option Piece) (h : List Event) → shape.kind ≡ kinds.Sections → Claims members m answer (Enter i m shape ∷ h) → IsSection answer
first_section members m i shape answer h kind claims =
    let here = claim_entered members m i shape answer h claims in
    claim_section members m answer (Enter i m shape ∷ h) claims (ap (λ (p : ℕ × Shape). p.1.kind) here ∙ kind)

first_least : (members m i : ℕ) (shape : Shape) (answer : Option Piece) (h : List Event) → shape.kind ≡ kinds.Sections → Claims members m answer (Enter i m shape ∷ h) → answer ≡ next_for (schedule members) shape i m h
first_least members m i shape answer h kind claims =
    let here = claim_entered members m i shape answer h claims in
    claims.least ∙ ap (λ (p : ℕ × Shape). next_for (schedule members) p.1 p.0 m (Enter i m shape ∷ h)) here

pub sections_dealt : (members m : ℕ) (shape : Shape) (answer : Option Piece) (h : List Event) → shape.kind ≡ kinds.Sections → MayOpen members m shape Entered h → Claims members m answer (Enter (shares_entered m h) m shape ∷ h) →
    AnswersBegin shape DealsSections members m (Section (section_of answer)) h
sections_dealt members m shape answer h kind may claims = (
  begin_compared shape m h false may.0,
  room_starts DealsSections members m shape (Section (section_of answer)) h may.1
      (section_dealt members m (shares_entered m h, shape) answer h (first_least members m (shares_entered m h) shape answer h kind claims) (first_section members m (shares_entered m h) shape answer h kind claims)),
)

-- the first one's taking, after the entry, is what the shares add
first_adds : (m : ℕ) (shape : Shape) (answer : Option Piece) (h : List Event) → IsSection answer → sections_begun shape m (Section (section_of answer)) h ≡ events_claimed m answer (Enter (shares_entered m h) m shape ∷ h)
first_adds m shape None h one = rw (same_number m) refl
first_adds m shape (Some piece) h one = rw (same_number m, one) refl

pub sections_add : (members m : ℕ) (shape : Shape) (answer : Option Piece) (h : List Event) → shape.kind ≡ kinds.Sections → Claims members m answer (Enter (shares_entered m h) m shape ∷ h) →
    sections_begun shape m (Section (section_of answer)) h ≡ events_claimed m answer (Enter (shares_entered m h) m shape ∷ h)
sections_add members m shape answer h kind claims = first_adds m shape answer h (first_section members m (shares_entered m h) shape answer h kind claims)

-- a section number is neither a refusal nor a wait, and a refused next gives nothing
pub section_refusal_given : (m : ℕ) (refusal : Refusal) (share : Option (ℕ × Shape)) → section_next_given share m (Refused refusal) ≡ []
section_refusal_given m refusal None = refl
section_refusal_given m refusal (Some share) = refl

-- so a next that the member's own tests let through is answered as its share deals
section_never_refuses : (members m : ℕ) (share : Option (ℕ × Shape)) (h : List Event) (refusal : Refusal) → DealsSections members m share (Refused refusal) h → ⊥
section_never_refuses members m None h refusal given = given
section_never_refuses members m (Some share) h refusal given = given

pub section_admitted : (members m : ℕ) (reply : Reply) (h : List Event) → least (section_next_tests (seen_of m h)) ≡ None → TakesSection members m reply h → AnswersSectionsNext members m reply h
section_admitted members m reply h none given =
    answers_let (section_next_tests (seen_of m h)) (λ given. DealsSections members m (open_share m h) given h) reply none (section_never_refuses members m (open_share m h) h) given
