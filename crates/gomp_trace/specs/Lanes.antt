-- A member's lane: what has begun on it and not ended, the outermost first, so that what is written of it nests. (own)
use Rattle.std.specs.Prelude.{ℕ, ◌+◌, ◌==◌, ◌&&◌, ◌||◌, Bool, true, false, if◌then◌else◌, List, [], ◌∷◌, ◌++◌, Option, Some, None, map, reverse, take, drop}
use Rattle.gomp_ompt.specs.declared.record.Point.{Point}
use Rattle.gomp_ompt.specs.declared.record.Point.TheVariants.{Work, TaskSchedule, ImplicitTask, SyncRegion}
use Rattle.gomp_ompt.specs.declared.record.Endpoint.{Endpoint}
use Rattle.gomp_ompt.specs.declared.record.Endpoint.TheVariants.{Begin, End, Single}
use Rattle.gomp_ompt.specs.declared.record.Record.{Record}
use Rattle.gomp_ompt.specs.Points.{point_index}
use Rattle.gomp_ompt.specs.Records.{end_record, single_record}
use Rattle.gomp_trace.specs.declared.event.TraceEvent.{TraceEvent}

-- what is shown as a slice, from its begin to its end: a work-share, a task, an implicit task, a wait; a nestable lock that is set once more is not, since it need not nest with these
abbrev pub is_span : Point → Bool
is_span Work = true
is_span TaskSchedule = true
is_span ImplicitTask = true
is_span SyncRegion = true
is_span _ = false

-- a task: with it ends all that has begun in it
abbrev pub is_task : Point → Bool
is_task TaskSchedule = true
is_task ImplicitTask = true
is_task _ = false

-- an implicit task, of which a lane has one
abbrev pub is_implicit : Point → Bool
is_implicit ImplicitTask = true
is_implicit _ = false

-- the end of what has begun
abbrev pub ended : Record → Record
ended event = end_record event.point event.id event.extra

-- the same as of a moment
abbrev pub moment : Record → Record
moment event = single_record event.point event.id event.extra

-- whether this end ends what has begun: it is of the same kind and number
abbrev pub ends : Record → Record → Bool
ends end begun = (point_index end.point == point_index begun.point) && (is_implicit end.point || (end.id == begun.id))

-- a place in a list with one more in front, which may be the one that is sought
abbrev pub one_further : Option ℕ → Bool → Option ℕ
one_further (Some place) first = Some (place + 1)
one_further None true = Some 0
one_further None false = None

-- the place of the innermost that an end ends
abbrev pub innermost : Record → List Record → Option ℕ
innermost end [] = None
innermost end (begun ∷ inner) = one_further (innermost end inner) (ends end begun)

-- the ends of these, the innermost first
abbrev pub all_ended : List Record → List Record
all_ended begun = map ended (reverse begun)

-- what goes on behind an end of this kind, of what has begun within
abbrev pub going_on : Point → List Record → List Record
going_on point inner = if is_task point then [] else inner

-- what an end gives, by the place of what it ends: that and all within ends, and what goes on begins again; a moment if nothing is ended
abbrev pub end_records : Record → Option ℕ → List Record → List Record
end_records end None begun = moment end ∷ []
end_records end (Some place) begun = all_ended (drop place begun) ++ going_on end.point (drop (place + 1) begun)

-- and what has begun and not ended behind it
abbrev pub after_end : Record → Option ℕ → List Record → List Record
after_end end None begun = begun
after_end end (Some place) begun = take place begun ++ going_on end.point (drop (place + 1) begun)

-- what is written of a record of a slice
abbrev pub slice_records : Endpoint → Record → List Record → List Record
slice_records Begin event begun = event ∷ []
slice_records End event begun = end_records event (innermost event begun) begun
slice_records Single event begun = moment event ∷ []

abbrev pub after_slice : Endpoint → Record → List Record → List Record
after_slice Begin event begun = begun ++ event ∷ []
after_slice End event begun = after_end event (innermost event begun) begun
after_slice Single event begun = begun

-- what is written of any record, and what has begun and not ended behind it
abbrev pub lane_records : Record → List Record → List Record
lane_records event begun = if is_span event.point then slice_records event.scope event begun else moment event ∷ []

abbrev pub lane_after : Record → List Record → List Record
lane_after event begun = if is_span event.point then after_slice event.scope event begun else begun

-- an event of a member at this time
abbrev pub at_time : ℕ → ℕ → Record → TraceEvent
at_time time member event = record { time = time; member = member; event = event }

-- the events of these records
abbrev pub all_at : ℕ → ℕ → List Record → List TraceEvent
all_at time member events = map (at_time time member) events
