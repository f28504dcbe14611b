-- The refusal of a step is the lesser of those of its layers; so each layer answers its own.
use Rattle.std.proofs.Common.{◌≡◌, ℕ, Bool, true, false, ◌++◌, Option, Some, None, refl, ap, ◌∙◌}
use Rattle.gomp_types.specs.declared.call.Step.{Step}
use Rattle.gomp_types.specs.declared.refusal.Refusal.{Refusal}
use Rattle.gomp_types.specs.declared.reply.Reply.{Reply}
use Rattle.gomp_types.specs.declared.reply.Reply.TheVariants.{Refused}
use Rattle.gomp_types.specs.Least.{lesser, least, Answers}
use Rattle.gomp_events.specs.Seen.{seen_of}
use Rattle.gomp_events.specs.TaskCalls.{unless_given_up}
use Rattle.gomp_types.proofs.LeastTests.{least_append}
use Rattle.gomp_model.specs.Past.{Past}
use Rattle.gomp_model.specs.Row.{Row, drain_tests, place_tests, asked_tests, board_tests, book_tests, leaving_tests, row_tests}
use Rattle.gomp_types.specs.Resumes.{is_resume}
use Rattle.gomp_model.specs.Team.{row_at, member_tests, wait_tests, refusal_of}

-- of a step: its member, its wait, its call
pub step_layers : (p : Past) (step : Step) → refusal_of p step
    ≡ lesser (least (member_tests p.terms.members step.member p.events))
    (lesser (least (wait_tests step.call (p.waits step.member).open_call)) (least (row_tests (is_resume step.call) (row_at p step) step.member p)))
step_layers p step =
    let member = member_tests p.terms.members step.member p.events in
    let wait = wait_tests step.call (p.waits step.member).open_call in
    let row = row_tests (is_resume step.call) (row_at p step) step.member p in
    least_append member (wait ++ row) ∙ ap (lesser (least member)) (least_append wait row)

-- of a call: whether its member leaves something, then its place and the comparison, then tasks, groups and room, then names and locks
pub row_layers : (repeated : Bool) (row : Row) (m : ℕ) (p : Past) → least (row_tests repeated row m p)
    ≡ lesser (least (leaving_tests repeated row m p)) (lesser (least (place_tests repeated row m p)) (lesser (least (board_tests repeated row m p)) (least (book_tests repeated row m p))))
row_layers repeated row m p =
    least_append (leaving_tests repeated row m p) (place_tests repeated row m p ++ (board_tests repeated row m p ++ book_tests repeated row m p))
    ∙ ap (lesser (least (leaving_tests repeated row m p)))
    (least_append (place_tests repeated row m p) (board_tests repeated row m p ++ book_tests repeated row m p)
    ∙ ap (lesser (least (place_tests repeated row m p))) (least_append (board_tests repeated row m p) (book_tests repeated row m p)))

-- of a call that is made: its member's place, unless it gives that up, whether anything is left there, and the comparison
pub by_layers : (row : Row) (m : ℕ) (p : Past) → least (place_tests false row m p)
    ≡ lesser (least (unless_given_up (row.gives_up m p.events) (row.by_place p.terms.limits (seen_of m p.events)))) (lesser (least (drain_tests row.drains m p.events)) (least (row.compared false m p)))
by_layers row m p =
    let place = unless_given_up (row.gives_up m p.events) (row.by_place p.terms.limits (seen_of m p.events)) in
    let drained = drain_tests row.drains m p.events in
    least_append place (drained ++ row.compared false m p) ∙ ap (lesser (least place)) (least_append drained (row.compared false m p))

-- whether tasks, groups and cancellation let it, and there is room for its events
pub board_layers : (row : Row) (m : ℕ) (p : Past) → least (board_tests false row m p) ≡ lesser (least (row.by_task m p)) (least (asked_tests (row.drops m p) row p))
board_layers row m p = least_append (row.by_task m p) (asked_tests (row.drops m p) row p)

-- and whether names and locks let it, and the lock is there
pub book_layers : (row : Row) (m : ℕ) (p : Past) → least (book_tests false row m p) ≡ lesser (least (row.by_team m p)) (least (row.missing m p))
book_layers row m p = least_append (row.by_team m p) (row.missing m p)

-- the refusals of a call that is made, layer by layer
abbrev pub MadeLayers : Row → Bool → ℕ → Past → Option Refusal
MadeLayers row repeated m p =
    lesser (least (leaving_tests false row m p))
    (lesser
    (lesser (least (unless_given_up (row.gives_up m p.events) (row.by_place p.terms.limits (seen_of m p.events)))) (lesser (least (drain_tests row.drains m p.events)) (least (row.compared repeated m p))))
    (lesser (lesser (least (row.by_task m p)) (least (asked_tests (row.drops m p) row p))) (lesser (least (row.by_team m p)) (least (row.missing m p)))))

layers_of_made : (repeated : Bool) (row : Row) (m : ℕ) (p : Past) → repeated ≡ false → least (row_tests repeated row m p) ≡ MadeLayers row repeated m p
layers_of_made true row m p made = absurd (cc)
layers_of_made false row m p made = row_layers false row m p ∙ rw (by_layers row m p, board_layers row m p, book_layers row m p) refl

layers_of_repeated : (repeated : Bool) (row : Row) (m : ℕ) (p : Past) → repeated ≡ true → least (row_tests repeated row m p) ≡ lesser (least (row.compared repeated m p)) (least (row.missing m p))
layers_of_repeated true row m p repeats = row_layers true row m p
layers_of_repeated false row m p repeats = absurd (cc)

-- all the layers of a step that makes a call
pub layers_made : (p : Past) (step : Step) → is_resume step.call ≡ false → refusal_of p step
    ≡ lesser (least (member_tests p.terms.members step.member p.events))
    (lesser (least (wait_tests step.call (p.waits step.member).open_call)) (MadeLayers (row_at p step) (is_resume step.call) step.member p))
layers_made p step made =
    step_layers p step
    ∙ ap (λ (last : Option Refusal). lesser (least (member_tests p.terms.members step.member p.events)) (lesser (least (wait_tests step.call (p.waits step.member).open_call)) last))
    (layers_of_made (is_resume step.call) (row_at p step) step.member p made)

-- and of one that repeats it
pub layers_repeated : (p : Past) (step : Step) → is_resume step.call ≡ true → refusal_of p step
    ≡ lesser (least (member_tests p.terms.members step.member p.events))
    (lesser (least (wait_tests step.call (p.waits step.member).open_call))
    (lesser (least ((row_at p step).compared (is_resume step.call) step.member p)) (least ((row_at p step).missing step.member p))))
layers_repeated p step repeats =
    step_layers p step
    ∙ ap (λ (last : Option Refusal). lesser (least (member_tests p.terms.members step.member p.events)) (lesser (least (wait_tests step.call (p.waits step.member).open_call)) last))
    (layers_of_repeated (is_resume step.call) (row_at p step) step.member p repeats)

-- what one layer answers by its own tests is the call's answer if the tests of the others fail
lesser_beside_none : (one other : Option Refusal) → other ≡ None → lesser one other ≡ one
lesser_beside_none None other none = none
lesser_beside_none (Some one) other none = rw none refl

place_alone : (row : Row) (m : ℕ) (p : Past) → least (leaving_tests false row m p) ≡ None → least (drain_tests row.drains m p.events) ≡ None → least (row.compared false m p) ≡ None → least (board_tests false row m p) ≡ None →
    least (book_tests false row m p) ≡ None → least (row_tests false row m p) ≡ least (unless_given_up (row.gives_up m p.events) (row.by_place p.terms.limits (seen_of m p.events)))
place_alone row m p leaving drained compared board book =
    let place = unless_given_up (row.gives_up m p.events) (row.by_place p.terms.limits (seen_of m p.events)) in
    row_layers false row m p ∙ rw leaving (rw (board, book) (lesser_beside_none (least (place_tests false row m p)) None refl)) ∙ by_layers row m p
    ∙ rw drained (lesser_beside_none (least place) (least (row.compared false m p)) compared)

pub answer_of_layer : (row : Row) (m : ℕ) (p : Past) (may : Reply → Type 0) (reply : Reply) → least (leaving_tests false row m p) ≡ None → least (drain_tests row.drains m p.events) ≡ None → least (row.compared false m p) ≡ None →
    least (board_tests false row m p) ≡ None → least (book_tests false row m p) ≡ None → Answers (unless_given_up (row.gives_up m p.events) (row.by_place p.terms.limits (seen_of m p.events))) may reply → Answers (row_tests false row m p) may reply
answer_of_layer row m p may (Refused refusal) leaving drained compared board book answer = place_alone row m p leaving drained compared board book ∙ answer
answer_of_layer row m p may reply leaving drained compared board book answer = (place_alone row m p leaving drained compared board book ∙ answer.0, answer.1)
