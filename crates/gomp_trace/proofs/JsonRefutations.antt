-- What the text of a trace shows of every event, team and lane, each number whole: a lemma for each line of the definitions, so that none says less unnoticed.
use Rattle.std.proofs.Common.{◌≡◌, ℕ, suc, List, ◌++◌, refl}
use Rattle.std.specs.Prelude.{codes, decimal, flat_map}
use Rattle.serde_json.specs.Data.{number, unsigned, string, object, member, no_members}
use Rattle.serde_json.specs.Written.{compact_text}
use Rattle.gomp_ompt.specs.declared.record.Point.{Point}
use Rattle.gomp_ompt.specs.Records.{begin_record, end_record, single_record}
use Rattle.gomp_trace.specs.Json.{args_data, event_data, lane_data, moment_data, name_data, names_text, next_line, slice_data, team_data, trace_text}
use Rattle.gomp_trace.specs.Lanes.{at_time}
use Rattle.gomp_trace.specs.Names.{category, event_name}
use Rattle.gomp_trace.specs.declared.event.TraceEvent.{TraceEvent}

-- Events

-- both numbers of a record are shown, and the number of its step
pub numbers_are_shown_whole : (time m id extra : ℕ) (point : Point) →
    args_data (at_time time m (single_record point id extra)) ≡ object (member (codes "extra") (number (unsigned extra)) (member (codes "id") (number (unsigned id)) (member (codes "step") (number (unsigned time)) no_members)))
numbers_are_shown_whole time m id extra point = refl

-- what begins is shown as that, what ends as that, and what is of a moment as neither
pub begin_is_shown_so : (time m id extra : ℕ) (point : Point) → event_data (at_time time m (begin_record point id extra)) ≡ slice_data (codes "B") (at_time time m (begin_record point id extra))
begin_is_shown_so time m id extra point = refl

pub end_is_shown_so : (time m id extra : ℕ) (point : Point) → event_data (at_time time m (end_record point id extra)) ≡ slice_data (codes "E") (at_time time m (end_record point id extra))
end_is_shown_so time m id extra point = refl

pub moment_is_shown_so : (time m id extra : ℕ) (point : Point) → event_data (at_time time m (single_record point id extra)) ≡ moment_data (at_time time m (single_record point id extra))
moment_is_shown_so time m id extra point = refl

-- each has its numbers, its category and its name, and stands on the lane of its member at the number of its step
pub slice_is_shown_on_its_lane : (phase : List ℕ) (traced : TraceEvent) →
    slice_data phase traced ≡ object (member (codes "args") (args_data traced) (member (codes "cat") (string (category traced.event.point)) (member (codes "name") (string (event_name traced.event)) (member (codes "ph") (string phase)
    (member (codes "pid") (number (unsigned 0)) (member (codes "tid") (number (unsigned traced.member)) (member (codes "ts") (number (unsigned traced.time)) no_members)))))))
unfolding slice_data
slice_is_shown_on_its_lane phase traced = refl

pub moment_is_shown_on_its_lane : (traced : TraceEvent) →
    moment_data traced ≡ object (member (codes "args") (args_data traced) (member (codes "cat") (string (category traced.event.point)) (member (codes "name") (string (event_name traced.event)) (member (codes "ph") (string (codes "i"))
    (member (codes "pid") (number (unsigned 0)) (member (codes "s") (string (codes "t")) (member (codes "tid") (number (unsigned traced.member)) (member (codes "ts") (number (unsigned traced.time)) no_members))))))))
unfolding moment_data
moment_is_shown_on_its_lane traced = refl

-- Names

-- a name is that of its own lane
pub name_is_of_its_lane : (name of : List ℕ) (lane : ℕ) →
    name_data name of lane ≡ object (member (codes "args") (object (member (codes "name") (string name) no_members)) (member (codes "name") (string of) (member (codes "ph") (string (codes "M"))
    (member (codes "pid") (number (unsigned 0)) (member (codes "tid") (number (unsigned lane)) no_members)))))
unfolding name_data
name_is_of_its_lane name of lane = refl

-- the team is named by its size, each lane by its member
pub team_is_named_by_its_size : (members : ℕ) → team_data members ≡ name_data (codes "team of " ++ decimal members) (codes "process_name") 0
team_is_named_by_its_size members = refl

pub lane_is_named_by_its_member : (m : ℕ) → lane_data m ≡ name_data (codes "member " ++ decimal m) (codes "thread_name") m
lane_is_named_by_its_member m = refl

-- The text

-- the team comes first, then each lane in its turn
pub team_is_named_first : (members : ℕ) → names_text members 0 ≡ compact_text (team_data members)
team_is_named_first members = refl

pub each_lane_is_named : (members m : ℕ) → names_text members (suc m) ≡ names_text members m ++ next_line (lane_data m)
each_lane_is_named members m = refl

-- behind the names of all lanes stands each event on a line of its own, in its turn
pub each_event_is_shown : (members : ℕ) (events : List TraceEvent) →
    trace_text members events ≡ codes "{\"traceEvents\":[\n" ++ names_text members members ++ flat_map (λ traced. codes ",\n" ++ compact_text (event_data traced)) events ++ codes "\n]}\n"
each_event_is_shown members events = refl
