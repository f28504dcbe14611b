-- Which of the tests that hold is the refusal, what a call may be answered by its tests, and when a construct differs from the team's.
use Rattle.std.proofs.Common.{◌≡◌, true, false, List, [], ◌∷◌, Some, None, refl}
use Rattle.std.specs.Prelude.{map}
use Rattle.gomp_types.specs.declared.loop_desc.EndKind.TheVariants.{Wait as WaitEnd, Nowait}
use Rattle.gomp_types.specs.declared.refusal.Place.TheVariants.{Share, Stopped as AtStop}
use Rattle.gomp_types.specs.declared.refusal.Refusal.TheVariants.{BadMember, Ended, Broken, Waiting, InsideShare, NotDrained}
use Rattle.gomp_types.specs.declared.reply.Reply.{Reply}
use Rattle.gomp_types.specs.declared.reply.Reply.TheVariants.{Passed, Refused}
use Rattle.gomp_types.specs.Tests.{Test, first_holding}
use Rattle.gomp_types.specs.Least.{lesser, least, Answers}
use Rattle.gomp_types.specs.Compare.{shape_differs, end_differs}
use Rattle.gomp_types.specs.Singles.{single_shape}
use Rattle.gomp_types.specs.ExampleShapes.{four, wider}

-- The least refusal

-- of two refusals the one of the lesser number, whichever stands first, and the only one if there is one
pub lesser_of_refusals :
    map (λ other. lesser (Some InsideShare) other) (None ∷ Some Waiting ∷ Some InsideShare ∷ Some NotDrained ∷ []) ≡ Some InsideShare ∷ Some Waiting ∷ Some InsideShare ∷ Some InsideShare ∷ []
lesser_of_refusals = refl

-- the other if there is no first
pub lesser_with_none : map (λ other. lesser None other) (None ∷ Some NotDrained ∷ []) ≡ None ∷ Some NotDrained ∷ []
lesser_with_none = refl

-- of two with one number the first
pub lesser_of_equals :
    lesser (Some (Broken (record { member = 1; place = AtStop }))) (Some (Broken (record { member = 0; place = Share 0 })))
    ≡ Some (Broken (record { member = 1; place = AtStop }))
lesser_of_equals = refl

-- no test, none that holds, one that does
pub least_of_one : map least ([] ∷ ((false, BadMember) ∷ (false, Ended) ∷ []) ∷ ((false, BadMember) ∷ (true, Ended) ∷ []) ∷ []) ≡ None ∷ None ∷ Some Ended ∷ []
least_of_one = refl

-- the first test that holds is another if the tests stand in another order
pub least_is_not_first : first_holding ((true, NotDrained) ∷ (true, InsideShare) ∷ []) ≡ Some NotDrained
least_is_not_first = refl

-- Answers

-- two tests hold, the lower one behind
abbrev two_hold : List Test
two_hold = (true, NotDrained) ∷ (true, InsideShare) ∷ []

-- none does
abbrev none_hold : List Test
none_hold = (false, NotDrained) ∷ (false, InsideShare) ∷ []

-- the answer is to pass
abbrev to_pass : Reply → Type 0
to_pass reply = reply ≡ Passed

-- the lower one is answered
pub answers_least : Answers two_hold to_pass (Refused InsideShare)
answers_least = refl

-- if none holds, what may be given
pub answers_reply : Answers none_hold to_pass Passed
answers_reply = (refl, refl)

-- Constructs that differ

-- a share that the team has not started differs from none; one that it has differs if its shape does
pub shapes_that_differ :
    map (shape_differs (four false)) (None ∷ Some (four false) ∷ Some (four true) ∷ Some wider ∷ Some (single_shape false) ∷ []) ≡ false ∷ false ∷ true ∷ true ∷ true ∷ []
shapes_that_differ = refl

-- a share with a barrier ends otherwise without, one without ends otherwise with it, and none ends otherwise
pub ends_that_differ :
    (map (end_differs WaitEnd) (None ∷ Some (0, four false) ∷ Some (0, single_shape true) ∷ []) ≡ false ∷ false ∷ true ∷ [])
    × (map (end_differs Nowait) (None ∷ Some (0, four false) ∷ Some (0, single_shape true) ∷ []) ≡ false ∷ true ∷ false ∷ [])
ends_that_differ = (refl, refl)
