use Rattle.std.proofs.Common.{sym, ◌∙◌, ap}
use Rattle.std.proofs.Common.{FitsSigned, rules}
use Rattle.std.specs.Int.{w64}
use Rattle.gomp_types.specs.Values.{IsShape}
use Rattle.gomp_types.proofs.Booleans.{is_equal}
use Rattle.std.specs.Prelude.{not}
use Rattle.gomp_share_ring.proofs.AllAnswers.{bare_single_differs, look_is_known, none_differs, misfit_differs, words_differ}
use Rattle.gomp_share_ring.proofs.AllCalls.{member_at, known_to_all, stands_here, before_share_of_all}
use Rattle.gomp_share_ring.proofs.ring_all.RingAllShares.next_differs.Goals as goal

pub look_at_next-word-requires-clause-next : goal.look_at_next-word-requires-clause-next
look_at_next-word-requires-clause-next c =
    let place = member_at _ _ _ _ _ _ c.self.view_is c.self.invariant.3 c.requires.member c.index.ensures in
    before_share_of_all _ _ _ _ _ place

pub returns-then-not-holds_share-clause-known : goal.returns-then-not-holds_share-clause-known
returns-then-not-holds_share-clause-known c = known_to_all _ _ _ _ c.self.view_is c.self.invariant.3

pub returns-then-not-holds_share-clause-answer : goal.returns-then-not-holds_share-clause-answer
returns-then-not-holds_share-clause-answer c = λ h st0.
    let st = stands_here _ _ _ h _ c.self.view_is st0 in
    let place = member_at _ _ _ _ _ _ c.self.view_is c.self.invariant.3 c.requires.member c.index.ensures in
    none_differs _ _ _ _ _ _ _ _ h place c.look_at_next-word.ensures.looked (sym c.holds_share.ensures.answer ∙ c.if-not-holds_share.true) st

pub invariant_of-self : goal.invariant_of-self
invariant_of-self c =
    let looked = look_is_known _ _ _ _ _ _ c.self.invariant.3 c.look_at_next-word.ensures.looked in
    (c.look_at_next-word.ensures.seat.0 ∙ c.self.invariant.0, c.look_at_next-word.ensures.seat.1 ∙ c.self.invariant.1, c.self.invariant.2, looked.all, rw looked.did c.self.invariant.4)

pub invariant_of-self-then-is_bare : goal.invariant_of-self-then-is_bare
invariant_of-self-then-is_bare c =
    let looked = look_is_known _ _ _ _ _ _ c.self.invariant.3 c.look_at_next-word.ensures.looked in
    (c.look_at_next-word.ensures.seat.0 ∙ c.self.invariant.0, c.look_at_next-word.ensures.seat.1 ∙ c.self.invariant.1, c.self.invariant.2, looked.all, rw looked.did c.self.invariant.4)

pub returns-then-is_bare-clause-known : goal.returns-then-is_bare-clause-known
returns-then-is_bare-clause-known c = known_to_all _ _ _ _ c.self.view_is c.self.invariant.3

pub returns-then-is_bare-clause-answer : goal.returns-then-is_bare-clause-answer
returns-then-is_bare-clause-answer c = λ h st0.
    let st = stands_here _ _ _ h _ c.self.view_is st0 in
    let place = member_at _ _ _ _ _ _ c.self.view_is c.self.invariant.3 c.requires.member c.index.ensures in
    ap not c.is_bare_single.ensures.answer ∙ bare_single_differs _ _ _ c.args.shape.now _ _ _ _ h place c.look_at_next-word.ensures.looked (sym c.holds_share.ensures.answer ∙ c.if-not-holds_share.false) (is_equal _ _ (sym c.is_bare.ensures.answer ∙ c.if-is_bare.true)) st

pub invariant_of-self-then-not-is_shape : goal.invariant_of-self-then-not-is_shape
invariant_of-self-then-not-is_shape c =
    let looked = look_is_known _ _ _ _ _ _ c.self.invariant.3 c.look_at_next-word.ensures.looked in
    (c.look_at_next-word.ensures.seat.0 ∙ c.self.invariant.0, c.look_at_next-word.ensures.seat.1 ∙ c.self.invariant.1, c.self.invariant.2, looked.all, rw looked.did c.self.invariant.4)

pub returns-then-not-is_shape-clause-known : goal.returns-then-not-is_shape-clause-known
returns-then-not-is_shape-clause-known c = known_to_all _ _ _ _ c.self.view_is c.self.invariant.3

pub returns-then-not-is_shape-clause-answer : goal.returns-then-not-is_shape-clause-answer
returns-then-not-is_shape-clause-answer c = λ h st0.
    let st = stands_here _ _ _ h _ c.self.view_is st0 in
    let place = member_at _ _ _ _ _ _ c.self.view_is c.self.invariant.3 c.requires.member c.index.ensures in
    let misfit : IsShape c.args.shape.now → ⊥ = λ is. (let told = c.is_shape.ensures.1 is in let off = c.if-not-is_shape.true in search (rules, told, off)) in
    misfit_differs _ _ _ _ _ _ _ _ h place c.look_at_next-word.ensures.looked (sym c.holds_share.ensures.answer ∙ c.if-not-holds_share.false) misfit st

pub has_same_words-requires-clause-next : goal.has_same_words-requires-clause-next
has_same_words-requires-clause-next c =
    let place = member_at _ _ _ _ _ _ c.self.view_is c.self.invariant.3 c.requires.member c.index.ensures in
    let looked = look_is_known _ _ _ _ _ _ c.self.invariant.3 c.look_at_next-word.ensures.looked in
    before_share_of_all _ _ _ _ _ (record { all = looked.all; at = place.at; member = place.member })

pub invariant_of-self-2 : goal.invariant_of-self-2
invariant_of-self-2 c =
    let looked = look_is_known _ _ _ _ _ _ c.self.invariant.3 c.look_at_next-word.ensures.looked in
    let same = ap (λ m. m.0) c.has_same_words.ensures.seat.1 in
    (c.has_same_words.ensures.seat.0 ∙ c.look_at_next-word.ensures.seat.0 ∙ c.self.invariant.0, ap (λ m. m.1) c.has_same_words.ensures.seat.1 ∙ c.look_at_next-word.ensures.seat.1 ∙ c.self.invariant.1, c.self.invariant.2, rw same looked.all, rw (same, looked.did) c.self.invariant.4)

pub returns-clause-known : goal.returns-clause-known
returns-clause-known c = known_to_all _ _ _ _ c.self.view_is c.self.invariant.3

pub returns-clause-answer : goal.returns-clause-answer
returns-clause-answer c = λ h st0.
    let st = stands_here _ _ _ h _ c.self.view_is st0 in
    let place = member_at _ _ _ _ _ _ c.self.view_is c.self.invariant.3 c.requires.member c.index.ensures in
    let valid : IsShape c.args.shape.now = c.is_shape.ensures.0 (search rules) in
    let start : FitsSigned w64 c.args.shape.now.start = search rules in
    let incr : FitsSigned w64 c.args.shape.now.incr = search rules in
    words_differ _ _ _ _ c.has_same_words.result _ _ _ _ h place c.look_at_next-word.ensures.looked (sym c.holds_share.ensures.answer ∙ c.if-not-holds_share.false) (record { valid = valid; start = start; incr = incr }) c.has_same_words.ensures.same c.has_same_words.ensures.differs st
