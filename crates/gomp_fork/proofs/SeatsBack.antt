-- Members that have run their programs have the seats that they were given.
use Rattle.std.proofs.Common.{ℕ, ◌≡◌, ◌+◌, Bool, true, false, List, [], ◌∷◌, Option, Some, None, inl, inr, ap, ◌∙◌, map}
use Rattle.gomp_types.specs.declared.call.Call.{Call}
use Rattle.gomp_types.specs.declared.reply.Reply.{Reply}
use Rattle.gomp_ompt.specs.declared.tool.Tool.{Ghosts as ToolGhosts}
use Rattle.gomp_ring.specs.RingSeats.{SeatView, AreAllSeats}
use Rattle.gomp_seat_calls.specs.Stays.{StaysSeat}
use Rattle.gomp_crew.specs.Outcomes.{EachKept}
use Rattle.gomp_team.specs.Members.{CalledWhole, TeamView, MemberView}
use Rattle.gomp_team_region.specs.Regions.{RegionView, seats_of}
use Rattle.gomp_team_region.proofs.Seats.{EachStays, all_seats_stay}
use Rattle.gomp_course.specs.declared.program.Act.{Act}
use Rattle.gomp_course.specs.declared.program.Act.TheVariants.{Do, Parallel}
use Rattle.gomp_course.specs.declared.program.Program.{Ghosts as ProgramGhosts}
use Rattle.gomp_course.specs.Exchanges.{Exchange}
use Rattle.gomp_course.specs.Runs.{ComesBy, HasRun, MakesCall, ServesHere, ServesIf}
use Rattle.gomp_fork.specs.Reports.{IsOpened}
use Rattle.gomp_fork.specs.Teams.{EachHasBegun, EndView, ForksRelation, members_of}

-- a seat stays that of its member, and so it does over one change and then another
same_seat : (one two : SeatView) → two ≡ one → StaysSeat one two
same_seat one two same = record {
  table = ap (λ (s : SeatView). s.table) same;
  members = ap (λ (s : SeatView). s.members) same;
  member = ap (λ (s : SeatView). s.member) same;
  seated = ap (λ (s : SeatView). s.seated) same;
}

stays_then : (one two three : SeatView) → StaysSeat one two → StaysSeat two three → StaysSeat one three
stays_then one two three first second = record {
  table = second.table ∙ first.table;
  members = second.members ∙ first.members;
  member = second.member ∙ first.member;
  seated = second.seated ∙ first.seated;
}

module _ {P T : Type 0} (program : ProgramGhosts P) (tool : ToolGhosts T) (forks : ForksRelation P T) where
  whole_call_keeps_seat : (call : Call) (reply : Reply) (before after : MemberView T) → CalledWhole tool.on_gives call reply before after → StaysSeat before.seat after.seat
  whole_call_keeps_seat call reply before after called = elim called.tries [
    | inl once ↦ once.stays
    | inr waited ↦ stays_then before.seat waited.0.seat after.seat waited.1.stays waited.2.stays
  ]

  call_keeps_seat : (call : Call) (reply : Reply) (before after : EndView P T) → MakesCall tool call reply before after → StaysSeat before.member.seat after.member.seat
  call_keeps_seat call reply before after makes = whole_call_keeps_seat call reply before.member after.member makes.called

  here_keeps_seat : (act : Option Act) (reply : Reply) (before after : EndView P T) → ServesHere tool act reply before after → StaysSeat before.member.seat after.member.seat
  here_keeps_seat (Some (Do call)) reply before after served = call_keeps_seat _ reply before after served
  here_keeps_seat (Some (Parallel num_threads if_clause)) reply before after (refusal, tests, told) = call_keeps_seat _ tests.shown before after tests.tested
  here_keeps_seat None reply before after served = call_keeps_seat _ reply before after served

  served_keeps_seat : (nested : Bool) (act : Option Act) (reply : Reply) (before after : EndView P T) → ServesIf program tool forks nested act reply before after → StaysSeat before.member.seat after.member.seat
  served_keeps_seat false act reply before after served = here_keeps_seat act reply before after served
  served_keeps_seat true (Some (Parallel num_threads if_clause)) reply before after (tested, tests, has) =
      stays_then before.member.seat tested.member.seat after.member.seat (call_keeps_seat _ tests.shown before tested tests.tested)
      (same_seat tested.member.seat after.member.seat (ap (λ (member : MemberView T). member.seat) has.member_is))
  served_keeps_seat true (Some (Do call)) reply before after served = absurd served
  served_keeps_seat true None reply before after served = absurd served

  came_with_seat : (start end : EndView P T) (exchanges : List Exchange) → ComesBy program tool forks start exchanges end → StaysSeat start.member.seat end.member.seat
  came_with_seat start end [] came = same_seat start.member.seat end.member.seat (ap (λ (runner : EndView P T). runner.member.seat) came)
  came_with_seat start end (exchange ∷ earlier) (before, came, goes) =
      stays_then start.member.seat before.member.seat end.member.seat (came_with_seat start before earlier came)
      (served_keeps_seat exchange.nested exchange.act exchange.reply (record (before) { prog = goes.prog }) end goes.served)

-- of jobs of members that have begun, and the outcomes by which each has run its program
module _ {P T J O : Type 0} (program : ProgramGhosts P) (tool : ToolGhosts T) (forks : ForksRelation P T) (n : ℕ) (start_of : J → EndView P T) (end_of : O → EndView P T) (taken_of : O → ℕ) where
  each_seat_stays : (m : ℕ) (members : List (MemberView T)) (jobs : List J) (outcomes : List O)
      → EachKept (λ job outcome. HasRun program tool forks (start_of job) (end_of outcome) (taken_of outcome)) jobs outcomes
      → EachHasBegun tool n m members (members_of (map start_of jobs)) → EachStays (seats_of members) (seats_of (members_of (map end_of outcomes)))
  each_seat_stays m [] [] [] kept begun = tt
  each_seat_stays m (member ∷ members) [] outcomes kept begun = absurd begun
  each_seat_stays m [] (job ∷ jobs) outcomes kept begun = absurd begun
  each_seat_stays m [] [] (outcome ∷ outcomes) kept begun = absurd kept
  each_seat_stays m (member ∷ members) (job ∷ jobs) [] kept begun = absurd kept
  each_seat_stays m (member ∷ members) (job ∷ jobs) (outcome ∷ outcomes) (one, others) (told, begun) = (
    stays_then member.seat (start_of job).member.seat (end_of outcome).member.seat
        (same_seat member.seat (start_of job).member.seat (ap (λ (view : MemberView T). view.seat) told.member_is))
        (came_with_seat program tool forks (start_of job) (end_of outcome) one.exchanges one.came),
    each_seat_stays (m + 1) members jobs outcomes others begun,
  )

-- those of an opened region are the seats of all its members
pub opened_seats_come_back : {P T J O : Type 0} (program : ProgramGhosts P) (tool : ToolGhosts T) (forks : ForksRelation P T) (start_of : J → EndView P T) (end_of : O → EndView P T) (taken_of : O → ℕ)
    (team : TeamView) (progs : List P) (tools : List T) (region : RegionView) (jobs : List J) (outcomes : List O)
    → IsOpened tool team progs tools region (map start_of jobs)
    → EachKept (λ job outcome. HasRun program tool forks (start_of job) (end_of outcome) (taken_of outcome)) jobs outcomes
    → AreAllSeats region.ring (seats_of (members_of (map end_of outcomes)))
opened_seats_come_back program tool forks start_of end_of taken_of team progs tools region jobs outcomes opened kept =
    all_seats_stay region.ring (seats_of opened.members) (seats_of (members_of (map end_of outcomes))) opened.seats_are
    (each_seat_stays program tool forks _ start_of end_of taken_of 0 opened.members jobs outcomes kept opened.begun)
