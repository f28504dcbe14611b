-- The text of a trace: one JSON object, an event a line. The Chrome Trace Event format, with members in the order of their keys. (own)
use Rattle.std.specs.Prelude.{ℕ, zero, suc, ◌++◌, List, codes, decimal, flat_map}
use Rattle.serde_json.specs.Data.{Data, number, unsigned, string, object, member, no_members}
use Rattle.serde_json.specs.Written.{compact_text}
use Rattle.gomp_ompt.specs.declared.record.Endpoint.{Endpoint}
use Rattle.gomp_ompt.specs.declared.record.Endpoint.TheVariants.{Begin, End, Single}
use Rattle.gomp_trace.specs.declared.event.TraceEvent.{TraceEvent}
use Rattle.gomp_trace.specs.Names.{event_name, category}

-- a number
abbrev pub natural : ℕ → Data
natural n = number (unsigned n)

-- the numbers of a record and of its step
abbrev pub args_data : TraceEvent → Data
args_data traced = object (member (codes "extra") (natural traced.event.extra) (member (codes "id") (natural traced.event.id) (member (codes "step") (natural traced.time) no_members)))

-- the begin or the end of a slice, by its letter
unfoldable pub slice_data : List ℕ → TraceEvent → Data
slice_data phase traced =
    object (member (codes "args") (args_data traced)
    (member (codes "cat") (string (category traced.event.point))
    (member (codes "name") (string (event_name traced.event))
    (member (codes "ph") (string phase)
    (member (codes "pid") (natural 0)
    (member (codes "tid") (natural traced.member)
    (member (codes "ts") (natural traced.time) no_members)))))))

-- what is of a moment: an instant that is shown on its lane alone
unfoldable pub moment_data : TraceEvent → Data
moment_data traced =
    object (member (codes "args") (args_data traced)
    (member (codes "cat") (string (category traced.event.point))
    (member (codes "name") (string (event_name traced.event))
    (member (codes "ph") (string (codes "i"))
    (member (codes "pid") (natural 0)
    (member (codes "s") (string (codes "t"))
    (member (codes "tid") (natural traced.member)
    (member (codes "ts") (natural traced.time) no_members))))))))

-- an event, by its scope
abbrev pub data_by : Endpoint → TraceEvent → Data
data_by Begin traced = slice_data (codes "B") traced
data_by End traced = slice_data (codes "E") traced
data_by Single traced = moment_data traced

abbrev pub event_data : TraceEvent → Data
event_data traced = data_by traced.event.scope traced

-- what names the team, or a lane: its name, what it is of, the lane
unfoldable pub name_data : List ℕ → List ℕ → ℕ → Data
name_data name of lane =
    object (member (codes "args") (object (member (codes "name") (string name) no_members))
    (member (codes "name") (string of)
    (member (codes "ph") (string (codes "M"))
    (member (codes "pid") (natural 0)
    (member (codes "tid") (natural lane) no_members)))))

abbrev pub team_data : ℕ → Data
team_data members = name_data (codes "team of " ++ decimal members) (codes "process_name") 0

abbrev pub lane_data : ℕ → Data
lane_data m = name_data (codes "member " ++ decimal m) (codes "thread_name") m

-- a line behind others
abbrev pub next_text : List ℕ → List ℕ
next_text line = codes ",\n" ++ line

abbrev pub next_line : Data → List ℕ
next_line json = next_text (compact_text json)

-- the names of the team and of its first so many lanes
abbrev pub names_text : ℕ → ℕ → List ℕ
names_text members zero = compact_text (team_data members)
names_text members (suc m) = names_text members m ++ next_line (lane_data m)

-- a trace of a team of this size
abbrev pub trace_text : ℕ → List TraceEvent → List ℕ
trace_text members events =
    codes "{\"traceEvents\":[\n" ++ names_text members members ++ flat_map (λ traced. next_line (event_data traced)) events ++ codes "\n]}\n"
