use Rattle.std.proofs.Common.{◌≡◌, ◌∙◌, Option, ap, inl, inr, subst, sym}
use Rattle.std.specs.Prelude.{is_some}
use Rattle.gomp_types.specs.declared.call.Server.{Server}
use Rattle.gomp_types.specs.declared.call.Server.TheVariants.{Book, Shares}
use Rattle.gomp_types.specs.declared.refusal.Refusal.{Refusal}
use Rattle.gomp_types.specs.Least.{lesser}
use Rattle.gomp_member.specs.Refused.{task_refusal}
use Rattle.gomp_ring.specs.RingSeats.{SeatView}
use Rattle.gomp_team.specs.Answers.{AnswersInside, StartsOnBoard}
use Rattle.gomp_team.specs.Members.{SharedView}
use Rattle.gomp_team.specs.Seats.{inside_of}
use Rattle.gomp_team.proofs.AnswerLaws.{inside_answered, made_or_again, none_is_found, nothing_refused, start_answered}
use Rattle.gomp_team.proofs.MoveLaws.{other_calls_move_no_holds, other_calls_move_no_releases}
use Rattle.gomp_team.proofs.team.SharedTeam.answer_by_shares.Goals as goal

pub returns-in-Some-start_by_seat-clause-held : goal.returns-in-Some-start_by_seat-clause-held
returns-in-Some-start_by_seat-clause-held g c =
    sym (other_calls_move_no_holds c.args.repeated c.args.call.now c.in-Some-start_by_seat.reply c.args.parts.now.held (λ book. let both : ◌≡◌ {A = Server} Shares Book = sym c.requires.served ∙ book in cc))

pub returns-in-Some-start_by_seat-clause-freed : goal.returns-in-Some-start_by_seat-clause-freed
returns-in-Some-start_by_seat-clause-freed g c =
    sym (other_calls_move_no_releases c.args.repeated c.args.call.now c.in-Some-start_by_seat.reply c.args.parts.now.freed (λ book. let both : ◌≡◌ {A = Server} Shares Book = sym c.requires.served ∙ book in cc))

pub returns-in-Some-start_by_seat-clause-answers : goal.returns-in-Some-start_by_seat-clause-answers
returns-in-Some-start_by_seat-clause-answers g c =
    let own = c.args.state.now.own in
    let value = c.lesser-found.ensures.value ∙ ap (λ (task : Option Refusal). lesser c.itself_refusal-own.result task) c.task_refusal.ensures.is in
    start_answered c.args.self.now.team.icv.cancellation c.args.repeated own c.args.call.now c.in-Some.start c.itself_refusal-own.result c.args.parts.now.seat c.in-Some-start_by_seat.reply
    c.requires.served (sym c.in-Some.ensures.start) c.itself_refusal-own.ensures.finds
    (λ refusal is. absurd (nothing_refused c.lesser-found.result c.itself_refusal-own.result (task_refusal own) refusal value (sym c.is_some-refused.ensures ∙ c.in-Some-start_by_seat.ensures.free) is))
    (made_or_again c.args.repeated c.in-Some.start (lesser c.itself_refusal-own.result (task_refusal own)) c.args.parts.now.seat c.in-Some-start_by_seat.reply (inl (record {
      given = c.in-Some-start_by_seat.ensures.parts;
      made = c.in-Some-start_by_seat.ensures.made;
      unfound = sym value ∙ none_is_found c.lesser-found.result (sym c.is_some-refused.ensures ∙ c.in-Some-start_by_seat.ensures.free);
      roomless = c.in-Some-start_by_seat.ensures.room;
    })))

pub returns-in_default-clause-answers : goal.returns-in_default-clause-answers
returns-in_default-clause-answers g c =
    let value = c.lesser-found.ensures.value ∙ ap (λ (task : Option Refusal). lesser c.itself_refusal-own.result task) c.task_refusal.ensures.is in
    start_answered c.args.self.now.team.icv.cancellation c.args.repeated c.args.state.now.own c.args.call.now c.in-Some.start c.itself_refusal-own.result c.args.parts.now.seat c.start.result
    c.requires.served (sym c.in-Some.ensures.start) c.itself_refusal-own.ensures.finds
    (λ refusal is. c.start.ensures.refuses (ap (λ (found : Option Refusal). is_some found) (value ∙ is)))
    (made_or_again c.args.repeated c.in-Some.start (lesser c.itself_refusal-own.result (task_refusal c.args.state.now.own)) c.args.parts.now.seat c.start.result
    (inr (subst (λ (found : Option Refusal). StartsOnBoard c.in-Some.start c.args.repeated found c.args.parts.now.seat c.start.result) value (subst (λ (seat : SeatView). StartsOnBoard c.in-Some.start c.args.repeated c.lesser-found.result seat c.start.result) (c.start_by_seat.ensures.none c.in_default.is ∙ c.itself_refusal-own.ensures.same) c.start.ensures.starts))))

pub returns-in-Some-inside_call-clause-answers : goal.returns-in-Some-inside_call-clause-answers
returns-in-Some-inside_call-clause-answers g c =
    let asked = c.in-Some-inside_call.inside in
    let reply = c.call_inside.result in
    let (team, of_team, answered) = c.call_inside.ensures.inside in
    let value = c.lesser-found.ensures.value ∙ ap (λ (task : Option Refusal). lesser c.itself_refusal-own.result task) c.task_refusal.ensures.is in
    let allowed = c.cancellation.ensures ∙ ap (λ (shared : SharedView). shared.team.icv.cancellation) c.self.view_is in
    let inside = sym (sym c.in-Some-inside_call.is ∙ c.inside_call.ensures.call ∙ ap (λ may. inside_of may c.args.call.now) allowed) in
    inside_answered c.args.self.now.team.icv.cancellation c.args.repeated c.args.state.now.own c.args.call.now asked c.itself_refusal-own.result team c.args.parts.now.seat reply c.requires.served inside c.itself_refusal-own.ensures.finds of_team
    (subst (λ (found : Option Refusal). AnswersInside (lesser found team) asked c.args.parts.now.seat reply) value (subst (λ (seat : SeatView). AnswersInside (lesser c.lesser-found.result team) asked seat reply) c.itself_refusal-own.ensures.same answered))
