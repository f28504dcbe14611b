-- The rows of arrivals and of the ends of shares.
use Rattle.std.proofs.Common.{◌≡◌, ℕ, ◌<◌, Bool, true, false, List, [], ◌∷◌, ◌++◌, None, refl, ap, sym, ◌∙◌, subst, inl, inr}
use Rattle.std.specs.Prelude.{◌⊎◌, ◌&&◌, not}
use Rattle.gomp_types.specs.declared.reply.Reply.{Reply}
use Rattle.gomp_types.specs.declared.reply.Reply.TheVariants.{Passed, Cancelled, Refused, Run, Chunk}
use Rattle.gomp_events.specs.declared.seen.Seen.{Seen}
use Rattle.gomp_events.specs.declared.event.Arrival.{Arrival}
use Rattle.gomp_events.specs.declared.event.Arrival.TheVariants.{Barrier as BarrierArrival, RegionEnd as RegionEndArrival}
use Rattle.gomp_events.specs.declared.event.Tag.{Tag}
use Rattle.gomp_events.specs.declared.event.Event.{Event}
use Rattle.gomp_events.specs.declared.event.Event.TheVariants.{Arrive}
use Rattle.gomp_types.specs.Tests.{Test}
use Rattle.gomp_events.specs.Tags.{tag_differs, tag_with}
use Rattle.gomp_events.specs.Events.{shares_entered, open_share, barriers_passed, tag_at, at_barrier, arrival as arrival_of}
use Rattle.gomp_events.specs.Tasks.{in_task, task_desc, is_undeferred}
use Rattle.gomp_events.specs.TaskCalls.{end_region_tests, HasJob, AwaitsTasks}
use Rattle.gomp_events.specs.Goals.{may_start, may_pass}
use Rattle.gomp_events.specs.Laws.{Always}
use Rattle.gomp_events.specs.Cancels.{is_cancelled, leaves_region}
use Rattle.gomp_events.specs.CancelCalls.{unless_cancelled, OrIsCancelled}
use Rattle.gomp_laws.specs.Rules.{TeamRule, MayArriveIn}
use Rattle.gomp_events.specs.Seen.{seen_of}
use Rattle.gomp_types.proofs.Booleans.{none_of, same_number, not_both}
use Rattle.gomp_events.proofs.TagsCompared.{same_tags}
use Rattle.gomp_types.proofs.LeastTests.{AllFail}
use Rattle.gomp_events.proofs.GoalReadings.{startable_may_start}
use Rattle.gomp_shares.specs.Starts.{leaves}
use Rattle.gomp_locks.specs.NameRules.{ArrivesFree}
use Rattle.gomp_locks.specs.Holders.{asker, holds_critical}
use Rattle.gomp_model.specs.Past.{Past}
use Rattle.gomp_model.specs.Row.{at_once, begun_past, unless_repeated, goes_on}
use Rattle.gomp_model.specs.Arrivals.{compared_arrival, passes, arrival_row, cut_short_row, ending, barrier_row, region_end_row}
use Rattle.gomp_model.proofs.Admitted.{by_place_fails, compared_fails, by_task_fails, by_team_fails, drained_fails}
use Rattle.gomp_laws.proofs.AtOnce.{at_once_sound}
use Rattle.gomp_laws.proofs.Awaits.{startable_not_undeferred, one_await, some_await, await_tells, started_own, started_keeps, begun_holds, begun_rules}
use Rattle.gomp_laws.proofs.Cancels.{unless_own, unless_keeps, sees_given, sees_keep}
use Rattle.gomp_laws.proofs.CancelledEnds.{sees_same, leaves_own, MayEndShare, leaves_keep}
use Rattle.gomp_laws.proofs.TeamShares.{task_rules, none_leaves}
use Rattle.gomp_laws.proofs.Sound.{is_cut, Same, AreGiven, memoryless, own_append, IsAdmittedMember, IsSound, quiet, only_arrives, outside_of_tasks, outside_lasts}

pass_own : (m : ℕ) (h : List Event) (reply : Reply) → AreGiven only_arrives m reply (passes m h reply)
pass_own m h Passed = ((refl, refl, refl), tt)
pass_own m h reply = started_own only_arrives m reply

pass_keeps : (members m : ℕ) (h : List Event) (reply : Reply) → m < members → in_task m h ≡ false → AwaitsTasks m (may_pass members m h) h reply → Always (TeamRule members) h → Always (TeamRule members) (passes m h reply ++ h)
pass_keeps members m h Passed lt outside may all = (record { passes = record { number = refl; met = may }; member = lt; outside = outside }, all)
pass_keeps members m h reply lt outside may all = started_keeps members m (may_pass members m h) h reply lt may all

-- what every arrival has in a region that is not cancelled, whatever is tested and given before it
record ArrivesAs (m : ℕ) (h after : List Event) : Type 0 where
  number : barriers_passed m after ≡ barriers_passed m h
  shares : shares_entered m after ≡ shares_entered m h
  outside : open_share m after ≡ None
  tag : tag_at (barriers_passed m h) after ≡ tag_at (barriers_passed m h) h
  own : arrival_of (barriers_passed m h) m after ≡ arrival_of (barriers_passed m h) m h
  cancelled : is_cancelled after ≡ is_cancelled h

arrive_rule : (members m : ℕ) (kind : Arrival) (h after : List Event) → m < members → is_cancelled h ≡ false → tag_differs (tag_with kind (shares_entered m h)) (tag_at (barriers_passed m h) h) ≡ false → arrival_of (barriers_passed m h) m h ≡ None →
    ArrivesFree m after → ArrivesAs m h after → MayArriveIn members (barriers_passed m h) m (tag_with kind (shares_entered m h)) after
arrive_rule members m kind h after lt whole same first names now = record {
  arrives = record {
    number = sym now.number;
    same = λ e. rw now.tag (same_tags (tag_with kind (shares_entered m h)) (tag_at (barriers_passed m h) h) same);
    ends = λ e. absurd (not_both (is_cancelled h) (sym now.cancelled ∙ e) whole);
  };
  member = lt;
  outside = λ e. now.outside;
  once = λ e. now.own ∙ first;
  shares = sym now.shares;
  names = names;
}

compared_clean : (kind : Arrival) (repeated : Bool) (m : ℕ) (h : List Event) → memoryless (compared_arrival kind repeated m h) ≡ true
compared_clean kind true m h = refl
compared_clean kind false m h = refl

-- in a region that is not cancelled a tag was compared
was_compared : (cancelled differs : Bool) → cancelled ≡ false → (not cancelled && differs) ≡ false → differs ≡ false
was_compared true differs whole e = absurd (cc)
was_compared false differs whole e = e

-- Barriers that a cancelled region cuts short

cut_answer : (c : Bool) (May : Reply → Type 0) (reply : Reply) → OrIsCancelled c May reply → ((c ≡ true) × (reply ≡ Cancelled)) ⊎ ((c ≡ false) × May reply)
cut_answer true May reply may = inl (refl, may)
cut_answer false May reply may = inr (refl, may)

cut_may : (c : Bool) (May : Reply → Type 0) (reply : Reply) → is_cut reply ≡ false → OrIsCancelled c May reply → (c ≡ false) × May reply
cut_may c May reply other may = elim (cut_answer c May reply may) [ inl e ↦ absurd (not_both (is_cut reply) (ap is_cut e.1) other) | inr e ↦ e ]

one_cut : (c : Bool) (m : ℕ) (met : Bool) (h : List Event) (a b : Reply) → OrIsCancelled c (AwaitsTasks m met h) a → OrIsCancelled c (AwaitsTasks m met h) b → Same a b
one_cut true m met h a b x y = inl (x ∙ sym y)
one_cut false m met h a b x y = one_await m met h a b x y

some_cut : (c : Bool) (m : ℕ) (met : Bool) (h : List Event) → ((reply : Reply) × AwaitsTasks m met h reply) → (reply : Reply) × OrIsCancelled c (AwaitsTasks m met h) reply
some_cut true m met h found = (Cancelled, refl)
some_cut false m met h found = found

await_passes : (m : ℕ) (met : Bool) (h : List Event) (reply : Reply) → AwaitsTasks m met h reply → (reply ≡ Passed) ⊎ (goes_on reply ≡ true) ⊎ (reply ≡ Cancelled)
await_passes m met h reply may = elim (await_tells m met h reply may) [ inl e ↦ inl e | inr e ↦ inr (inl e) ]

cut_tells : (c : Bool) (m : ℕ) (met : Bool) (h : List Event) (reply : Reply) → OrIsCancelled c (AwaitsTasks m met h) reply → (reply ≡ Passed) ⊎ (goes_on reply ≡ true) ⊎ (reply ≡ Cancelled)
cut_tells true m met h reply may = inr (inr may)
cut_tells false m met h reply may = await_passes m met h reply may

cut_only_if_cancelled : (c : Bool) (m : ℕ) (met : Bool) (h : List Event) → OrIsCancelled c (AwaitsTasks m met h) Cancelled → c ≡ true
cut_only_if_cancelled true m met h may = refl
cut_only_if_cancelled false m met h may = absurd may

-- such a call goes on only if the region is not cancelled
uncut_goes_on : (c : Bool) (May : Reply → Type 0) (reply : Reply) → OrIsCancelled c May reply → goes_on reply ≡ true → c ≡ false
uncut_goes_on c May reply may on = elim (cut_answer c May reply may) [ inl e ↦ absurd (let off : goes_on reply ≡ false = ap goes_on e.1 in not_both (goes_on reply) on off) | inr e ↦ e.0 ]

-- a task that is run may be started at a wait, and is none of the call's own
await_runs : (m task code arg : ℕ) (own met : Bool) (h : List Event) → AwaitsTasks m met h (Run task code arg own) → (is_undeferred task h ≡ own) × (may_start m task h ≡ true) × HasJob (task_desc task h) code arg × (own ≡ true → ⊥)
await_runs m task code arg own met h may =
    (startable_not_undeferred m task h may.2 ∙ sym may.1, startable_may_start m task h may.2, may.3, λ e. let both = sym may.1 ∙ e in cc)

unless_outside : (c : Bool) (m barrier : ℕ) (tag : Tag) (h : List Event) → in_task m h ≡ false → in_task m (unless_cancelled c (Arrive barrier m tag ∷ []) ++ h) ≡ false
unless_outside true m barrier tag h outside = outside
unless_outside false m barrier tag h outside = outside

-- A barrier

barrier_begins : (m : ℕ) (p : Past) → IsAdmittedMember barrier_row false m p → Always (TeamRule p.terms.members) p.events → Always (TeamRule p.terms.members) (barrier_row.begins m p ++ p.events)
barrier_begins m p ready all =
    let h = p.events in
    let names : ArrivesFree m h = record { outside = (by_task_fails ready.admitted.parts refl).0; free = (by_team_fails ready.admitted.book refl).0 } in
    unless_keeps p.terms.members (is_cancelled h) (Arrive (barriers_passed m h) m (tag_with BarrierArrival (shares_entered m h))) h
    (λ whole. arrive_rule p.terms.members m BarrierArrival h h ready.member whole
    (was_compared (is_cancelled h) (tag_differs (tag_with BarrierArrival (shares_entered m h)) (tag_at (barriers_passed m h) h)) whole (compared_fails ready.admitted.parts).0)
    (ready.first refl refl (none_leaves p.terms.members m h all whole)) names
    (record { number = refl; shares = refl; outside = none_of (open_share m h) (by_place_fails ready.admitted.parts refl refl).0; tag = refl; own = refl; cancelled = refl })) all

barrier_there : (c : Bool) (event : Event) (h : List Event) (m : ℕ) → is_cancelled h ≡ c → at_barrier m (event ∷ h) ≡ true → is_cancelled (unless_repeated (unless_cancelled c (event ∷ [])) false ++ h) ≡ false →
    at_barrier m (unless_repeated (unless_cancelled c (event ∷ [])) false ++ h) ≡ true
barrier_there true event h m e there whole = absurd (not_both (is_cancelled h) e whole)
barrier_there false event h m e there whole = there

pub barrier_sound : IsSound barrier_row
barrier_sound = record {
  decided = λ m p a b x y. one_cut (is_cancelled p.events) m (may_pass p.terms.members m p.events) p.events a b x y;
  accepts = λ m p refusal x. (cut_may (is_cancelled p.events) (AwaitsTasks m (may_pass p.terms.members m p.events) p.events) (Refused refusal) refl x).1;
  answered = λ repeated m p ready all.
      let q = begun_past repeated barrier_row m p in
      some_cut (is_cancelled q.events) m (may_pass q.terms.members m q.events) q.events
      (some_await q.terms.members m (may_pass q.terms.members m q.events) q.events (task_rules q.terms.members q.events (begun_rules barrier_row repeated m p ready (λ first. barrier_begins m p first all) all)));
  counts = λ repeated m p first count ready all may.
      let q = begun_past repeated barrier_row m p in absurd ((cut_may (is_cancelled q.events) (AwaitsTasks m (may_pass q.terms.members m q.events) q.events) (Chunk first count) refl may).1);
  begins_own = λ m p. unless_own only_arrives (is_cancelled p.events) m (Arrive (barriers_passed m p.events) m (tag_with BarrierArrival (shares_entered m p.events)) ∷ []) ((refl, refl), tt);
  gives_own = λ m p reply. sees_given only_arrives m reply (passes m p.events reply) (pass_own m p.events reply);
  begins_keep = λ m p ready all. barrier_begins m p ready all;
  gives_keep = λ repeated m p reply ready may all.
      let q = begun_past repeated barrier_row m p in
      let outside = outside_of_tasks ready refl (λ fail. fail.0) in
      let out = begun_holds (λ h. in_task m h ≡ false) repeated (barrier_row.begins m p) p.events (λ first. unless_outside (is_cancelled p.events) m (barriers_passed m p.events) (tag_with BarrierArrival (shares_entered m p.events)) p.events outside) outside in
      let met = may_pass p.terms.members m q.events in
      sees_keep p.terms.members m reply (passes m q.events reply) q.events ready.member
      (λ e. cut_only_if_cancelled (is_cancelled q.events) m met q.events (subst (λ (r : Reply). OrIsCancelled (is_cancelled q.events) (AwaitsTasks m met q.events) r) e may))
      (λ other. pass_keeps p.terms.members m q.events reply ready.member out (cut_may (is_cancelled q.events) (AwaitsTasks m met q.events) reply other may).1 all) all;
  still = λ stays m p. absurd (cc);
  placed = λ stays m h. refl;
  outside = λ arrives m p fail. fail.0;
  tells = λ arrives m p reply may. cut_tells (is_cancelled p.events) m (may_pass p.terms.members m p.events) p.events reply may;
  one_pass = λ arrives m p. refl;
  arrives_there = λ arrives m p reply may on.
      let h = p.events in
      let q = begun_past false barrier_row m p in
      barrier_there (is_cancelled h) (Arrive (barriers_passed m h) m (tag_with BarrierArrival (shares_entered m h))) h m refl (rw (same_number m) refl)
      (uncut_goes_on (is_cancelled q.events) (AwaitsTasks m (may_pass q.terms.members m q.events) q.events) reply may on);
  waits_quietly = λ arrives m p. refl;
  lasts = λ repeated m p ready all may. outside_lasts ready refl (λ arrives fail. fail.0) may;
  waits_for = λ key m p holds may. absurd (cc);
  tells_count = λ key repeated m count p holds ready all may. absurd (cc);
  runs = λ m p task code arg own may.
      let met = may_pass p.terms.members m p.events in
      let run = await_runs m task code arg own met p.events (cut_may (is_cancelled p.events) (AwaitsTasks m met p.events) (Run task code arg own) refl may).1 in
      (refl, refl, run.0, run.1, run.2, refl, λ e. absurd (run.3 e));
  ends = λ m p task waiting may. absurd ((cut_may (is_cancelled p.events) (AwaitsTasks m (may_pass p.terms.members m p.events) p.events) _ refl may).1);
  created = λ repeated m p task ready may.
      let q = begun_past repeated barrier_row m p in absurd ((cut_may (is_cancelled q.events) (AwaitsTasks m (may_pass q.terms.members m q.events) q.events) _ refl may).1);
  cancelled = λ m p may. (cut_only_if_cancelled (is_cancelled p.events) m (may_pass p.terms.members m p.events) p.events may, refl);
  dropped = λ repeated m p ready all may.
      let q = begun_past repeated barrier_row m p in absurd ((cut_may (is_cancelled q.events) (AwaitsTasks m (may_pass q.terms.members m q.events) q.events) _ refl may).1);
  allowed = λ cancels m p. absurd (cc);
  no_memory = λ m p. (refl, refl, refl, refl, λ repeated. compared_clean BarrierArrival repeated m p.events);
  words_keep = λ puts repeated m p reply ready may all. absurd (cc);
}

-- The region's end

-- a member arrives there, from wherever it is if it leaves a cancelled region
region_end_arrives : (m : ℕ) (p : Past) → IsAdmittedMember region_end_row false m p → Always (TeamRule p.terms.members) p.events → MayArriveIn p.terms.members (barriers_passed m p.events) m (tag_with RegionEndArrival (shares_entered m p.events)) p.events
region_end_arrives m p ready all =
    let h = p.events in record {
      arrives = record {
        number = refl;
        same = λ whole.
            same_tags (tag_with RegionEndArrival (shares_entered m h)) (tag_at (barriers_passed m h) h)
            (was_compared (is_cancelled h) (tag_differs (tag_with RegionEndArrival (shares_entered m h)) (tag_at (barriers_passed m h) h)) whole (compared_fails ready.admitted.parts).0);
        ends = λ e. refl;
      };
      member = ready.member;
      outside = λ stays. none_of (open_share m h) (by_place_fails ready.admitted.parts refl stays).0;
      once = λ stays. ready.first refl refl stays;
      shares = refl;
      names = record { outside = (by_task_fails ready.admitted.parts refl).0; free = (by_team_fails ready.admitted.book refl).0 };
    }

group_clean : (gives_up : Bool) (m : ℕ) (h : List Event) → memoryless (end_region_tests gives_up m h) ≡ true
group_clean true m h = refl
group_clean false m h = refl

pub region_end_sound : IsSound region_end_row
region_end_sound = record {
  decided = λ m p a b x y. one_await m (may_pass p.terms.members m p.events) p.events a b x y;
  accepts = λ m p refusal x. x;
  answered = λ repeated m p ready all.
      let q = begun_past repeated region_end_row m p in
      some_await q.terms.members m (may_pass q.terms.members m q.events) q.events
      (task_rules q.terms.members q.events (begun_rules region_end_row repeated m p ready (λ first. (region_end_arrives m p first all, all)) all));
  counts = λ repeated m p first count ready all may. absurd may;
  begins_own = λ m p. ((refl, refl), tt);
  gives_own = λ m p reply. pass_own m p.events reply;
  begins_keep = λ m p ready all. (region_end_arrives m p ready all, all);
  gives_keep = λ repeated m p reply ready may all.
      let q = begun_past repeated region_end_row m p in
      let outside = outside_of_tasks ready refl (λ fail. fail.0) in
      pass_keeps p.terms.members m q.events reply ready.member (begun_holds (λ h. in_task m h ≡ false) repeated (region_end_row.begins m p) p.events (λ first. outside) outside) may all;
  still = λ stays m p. absurd (cc);
  placed = λ stays m h. absurd (cc);
  outside = λ arrives m p fail. fail.0;
  tells = λ arrives m p reply may. await_passes m (may_pass p.terms.members m p.events) p.events reply may;
  one_pass = λ arrives m p. refl;
  arrives_there = λ arrives m p reply may on. rw (same_number m) refl;
  waits_quietly = λ arrives m p. refl;
  lasts = λ repeated m p ready all may. outside_lasts ready refl (λ arrives fail. fail.0) may;
  waits_for = λ key m p holds may. absurd (cc);
  tells_count = λ key repeated m count p holds ready all may. absurd (cc);
  runs = λ m p task code arg own may.
      let run = await_runs m task code arg own (may_pass p.terms.members m p.events) p.events may in
      (refl, refl, run.0, run.1, run.2, refl, λ e. absurd (run.3 e));
  ends = λ m p task waiting may. absurd may;
  created = λ repeated m p task ready may. absurd may;
  cancelled = λ m p may. absurd may;
  dropped = λ repeated m p ready all may. absurd may;
  allowed = λ cancels m p. absurd (cc);
  no_memory = λ m p. (refl, group_clean (leaves_region m p.events) m p.events, refl, refl, λ repeated. compared_clean RegionEndArrival repeated m p.events);
  words_keep = λ puts repeated m p reply ready may all. absurd (cc);
}

-- Ends of shares

-- the tests of an end: a member that they let end its share is in a loop or sections
pub record IsEnd (tests : Seen → List Test) : Type 0 where
  pub inside : (members m : ℕ) (h : List Event) → AllFail (tests (seen_of m h)) → Always (TeamRule members) h → MayEndShare m h
  pub no_memory : (seen : Seen) → memoryless (tests seen) ≡ true

end_leaves : (tests : Seen → List Test) (kind : Arrival) → IsEnd tests → (m : ℕ) (p : Past) → IsAdmittedMember (ending tests (cut_short_row (arrival_row kind))) false m p → Always (TeamRule p.terms.members) p.events → Always (TeamRule p.terms.members) (leaves m p.events ++ p.events)
end_leaves tests kind is m p ready all = leaves_keep p.terms.members m p.events ready.member (is.inside p.terms.members m p.events (by_place_fails ready.admitted.parts refl refl) all) (drained_fails ready.admitted refl).0 all

-- what a member's arrivals and names are stays when it leaves its share
leaves_as : (m : ℕ) (h : List Event) → ArrivesAs m h (leaves m h ++ h)
leaves_as m h = record {
  number = sees_same (barriers_passed m) m h refl;
  shares = sees_same (shares_entered m) m h refl;
  outside = rw (same_number m) refl;
  tag = sees_same (tag_at (barriers_passed m h)) m h refl;
  own = sees_same (arrival_of (barriers_passed m h) m) m h refl;
  cancelled = sees_same is_cancelled m h refl;
}

leaves_free : (m : ℕ) (h : List Event) → in_task m h ≡ false → holds_critical (asker m h) h ≡ false → ArrivesFree m (leaves m h ++ h)
leaves_free m h outside free = record { outside = sees_same (in_task m) m h refl ∙ outside; free = sees_same (λ now. holds_critical (asker m now) now) m h refl ∙ free }

unless_regroup : (members : ℕ) (c : Bool) (event : Event) (events h : List Event) → Always (TeamRule members) (unless_cancelled c (event ∷ []) ++ (events ++ h)) → Always (TeamRule members) ((unless_cancelled c (event ∷ []) ++ events) ++ h)
unless_regroup members true event events h all = all
unless_regroup members false event events h all = all

end_begins : (tests : Seen → List Test) (kind : Arrival) → IsEnd tests → (m : ℕ) (p : Past) → IsAdmittedMember (ending tests (cut_short_row (arrival_row kind))) false m p → Always (TeamRule p.terms.members) p.events →
    Always (TeamRule p.terms.members) ((ending tests (cut_short_row (arrival_row kind))).begins m p ++ p.events)
end_begins tests kind is m p ready all =
    let h = p.events in
    let event = Arrive (barriers_passed m h) m (tag_with kind (shares_entered m h)) in
    unless_regroup p.terms.members (is_cancelled h) event (leaves m h) h
    (unless_keeps p.terms.members (is_cancelled h) event (leaves m h ++ h)
    (λ whole. arrive_rule p.terms.members m kind h (leaves m h ++ h) ready.member whole
    (was_compared (is_cancelled h) (tag_differs (tag_with kind (shares_entered m h)) (tag_at (barriers_passed m h) h)) whole (compared_fails ready.admitted.parts).0)
    (ready.first refl refl (none_leaves p.terms.members m h all whole)) (leaves_free m h (by_task_fails ready.admitted.parts refl).0 (by_team_fails ready.admitted.book refl).0) (leaves_as m h))
    (end_leaves tests kind is m p ready all))

end_there : (c : Bool) (event : Event) (h : List Event) (m : ℕ) → is_cancelled h ≡ c → at_barrier m (event ∷ leaves m h ++ h) ≡ true → is_cancelled (unless_repeated (unless_cancelled c (event ∷ []) ++ leaves m h) false ++ h) ≡ false →
    at_barrier m (unless_repeated (unless_cancelled c (event ∷ []) ++ leaves m h) false ++ h) ≡ true
end_there true event h m e there whole = absurd (not_both (is_cancelled h) e (sym (sees_same is_cancelled m h refl) ∙ whole))
end_there false event h m e there whole = there

end_stays_outside : (c : Bool) (event : Event) (h : List Event) (m : ℕ) → ((now : List Event) → in_task m (event ∷ now) ≡ in_task m now) → in_task m h ≡ false → in_task m ((unless_cancelled c (event ∷ []) ++ leaves m h) ++ h) ≡ false
end_stays_outside true event h m none outside = sees_same (in_task m) m h refl ∙ outside
end_stays_outside false event h m none outside = none (leaves m h ++ h) ∙ sees_same (in_task m) m h refl ∙ outside

pub end_arrival_sound : (tests : Seen → List Test) (kind : Arrival) → IsEnd tests → IsSound (ending tests (cut_short_row (arrival_row kind)))
end_arrival_sound tests kind is = record {
  decided = λ m p a b x y. one_cut (is_cancelled p.events) m (may_pass p.terms.members m p.events) p.events a b x y;
  accepts = λ m p refusal x. (cut_may (is_cancelled p.events) (AwaitsTasks m (may_pass p.terms.members m p.events) p.events) (Refused refusal) refl x).1;
  answered = λ repeated m p ready all.
      let row = ending tests (cut_short_row (arrival_row kind)) in
      let q = begun_past repeated row m p in
      some_cut (is_cancelled q.events) m (may_pass q.terms.members m q.events) q.events
      (some_await q.terms.members m (may_pass q.terms.members m q.events) q.events (task_rules q.terms.members q.events (begun_rules row repeated m p ready (λ first. end_begins tests kind is m p first all) all)));
  counts = λ repeated m p first count ready all may.
      let q = begun_past repeated (ending tests (cut_short_row (arrival_row kind))) m p in
      absurd ((cut_may (is_cancelled q.events) (AwaitsTasks m (may_pass q.terms.members m q.events) q.events) (Chunk first count) refl may).1);
  begins_own = λ m p.
      let arrival = unless_cancelled (is_cancelled p.events) (Arrive (barriers_passed m p.events) m (tag_with kind (shares_entered m p.events)) ∷ []) in
      own_append only_arrives m arrival (leaves m p.events)
      (unless_own only_arrives (is_cancelled p.events) m (Arrive (barriers_passed m p.events) m (tag_with kind (shares_entered m p.events)) ∷ []) ((refl, refl), tt)) (leaves_own only_arrives m p.events);
  gives_own = λ m p reply. sees_given only_arrives m reply (passes m p.events reply) (pass_own m p.events reply);
  begins_keep = λ m p ready all. end_begins tests kind is m p ready all;
  gives_keep = λ repeated m p reply ready may all.
      let row = ending tests (cut_short_row (arrival_row kind)) in
      let q = begun_past repeated row m p in
      let outside = outside_of_tasks ready refl (λ fail. fail.0) in
      let event = Arrive (barriers_passed m p.events) m (tag_with kind (shares_entered m p.events)) in
      let out = begun_holds (λ h. in_task m h ≡ false) repeated (row.begins m p) p.events (λ first. end_stays_outside (is_cancelled p.events) event p.events m (λ now. refl) outside) outside in
      let met = may_pass p.terms.members m q.events in
      sees_keep p.terms.members m reply (passes m q.events reply) q.events ready.member
      (λ e. cut_only_if_cancelled (is_cancelled q.events) m met q.events (subst (λ (r : Reply). OrIsCancelled (is_cancelled q.events) (AwaitsTasks m met q.events) r) e may))
      (λ other. pass_keeps p.terms.members m q.events reply ready.member out (cut_may (is_cancelled q.events) (AwaitsTasks m met q.events) reply other may).1 all) all;
  still = λ stays m p. absurd (cc);
  placed = λ stays m h. refl;
  outside = λ arrives m p fail. fail.0;
  tells = λ arrives m p reply may. cut_tells (is_cancelled p.events) m (may_pass p.terms.members m p.events) p.events reply may;
  one_pass = λ arrives m p. refl;
  arrives_there = λ arrives m p reply may on.
      let h = p.events in
      let q = begun_past false (ending tests (cut_short_row (arrival_row kind))) m p in
      end_there (is_cancelled h) (Arrive (barriers_passed m h) m (tag_with kind (shares_entered m h))) h m refl (rw (same_number m) refl)
      (uncut_goes_on (is_cancelled q.events) (AwaitsTasks m (may_pass q.terms.members m q.events) q.events) reply may on);
  waits_quietly = λ arrives m p. refl;
  lasts = λ repeated m p ready all may. outside_lasts ready refl (λ arrives fail. fail.0) may;
  waits_for = λ key m p holds may. absurd (cc);
  tells_count = λ key repeated m count p holds ready all may. absurd (cc);
  runs = λ m p task code arg own may.
      let met = may_pass p.terms.members m p.events in
      let run = await_runs m task code arg own met p.events (cut_may (is_cancelled p.events) (AwaitsTasks m met p.events) (Run task code arg own) refl may).1 in
      (refl, refl, run.0, run.1, run.2, refl, λ e. absurd (run.3 e));
  ends = λ m p task waiting may. absurd ((cut_may (is_cancelled p.events) (AwaitsTasks m (may_pass p.terms.members m p.events) p.events) _ refl may).1);
  created = λ repeated m p task ready may.
      let q = begun_past repeated (ending tests (cut_short_row (arrival_row kind))) m p in absurd ((cut_may (is_cancelled q.events) (AwaitsTasks m (may_pass q.terms.members m q.events) q.events) _ refl may).1);
  cancelled = λ m p may. (cut_only_if_cancelled (is_cancelled p.events) m (may_pass p.terms.members m p.events) p.events may, refl);
  dropped = λ repeated m p ready all may.
      let q = begun_past repeated (ending tests (cut_short_row (arrival_row kind))) m p in absurd ((cut_may (is_cancelled q.events) (AwaitsTasks m (may_pass q.terms.members m q.events) q.events) _ refl may).1);
  allowed = λ cancels m p. absurd (cc);
  no_memory = λ m p. (is.no_memory (seen_of m p.events), refl, refl, refl, λ repeated. compared_clean kind repeated m p.events);
  words_keep = λ puts repeated m p reply ready may all. absurd (cc);
}

-- an end with no barrier
pub end_sound : (tests : Seen → List Test) → IsEnd tests → IsSound (record (at_once tests leaves) { drains = true })
end_sound tests is =
    at_once_sound true tests leaves (record {
      own = λ m h. leaves_own quiet m h;
      keep = λ m p ready all. leaves_keep p.terms.members m p.events ready.member (is.inside p.terms.members m p.events (by_place_fails ready.admitted.parts refl refl) all) (drained_fails ready.admitted refl).0 all;
      no_memory = is.no_memory;
    })
