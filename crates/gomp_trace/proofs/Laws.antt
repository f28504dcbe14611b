-- Laws of lanes: what is written of a member nests.
use Rattle.std.proofs.Common.{◌≡◌, ℕ, zero, suc, ◌+◌, true, false, Bool, List, [], ◌∷◌, ◌++◌, Option, Some, None, take, drop, map, reverse, refl, ap, sym, subst, ◌∙◌}
use Rattle.std.specs.Prelude.{if◌then◌else◌}
use Rattle.std.proofs.lemmas.List.{append-nil, append_assoc, reverse-append, take-append-drop}
use Rattle.gomp_ompt.specs.declared.record.Endpoint.{Endpoint}
use Rattle.gomp_ompt.specs.declared.record.Endpoint.TheVariants.{Begin, End, Single}
use Rattle.gomp_ompt.specs.declared.record.Record.{Record}
use Rattle.gomp_trace.specs.Lanes.{is_span, is_task, ended, moment, innermost, all_ended, going_on, end_records, after_end, slice_records, after_slice, lane_records, lane_after}
use Rattle.gomp_trace.specs.Nesting.{Nests}

-- records that nest, and others behind them
nests_on : (before between after : List Record) (some more : List Record) → Nests before some between → Nests between more after → Nests before (some ++ more) after
nests_on before between after [] more first later = subst (λ (all : List Record). Nests all more after) (sym first) later
nests_on before between after (event ∷ some) more first later = (first.0, first.1, nests_on first.0 between after some more first.2 later)

-- what has begun ends, the innermost first
ends_nest : (inner outer : List Record) → Nests (inner ++ outer) (map ended inner) outer
ends_nest [] outer = refl
ends_nest (event ∷ inner) outer = (inner ++ outer, (refl, refl), ends_nest inner outer)

-- all that has begun on a lane ends
pub closing_nests : (begun : List Record) → Nests (reverse begun) (all_ended begun) []
closing_nests begun = subst (λ (all : List Record). Nests all (all_ended begun) []) (append-nil (reverse begun)) (ends_nest (reverse begun) [])

-- each of these begins something
abbrev pub AllBegin : List Record → Type 0
AllBegin [] = Unit {0}
AllBegin (event ∷ events) = (event.scope ≡ Begin) × AllBegin events

begins_nest : (events outer : List Record) → AllBegin events → Nests outer events (reverse events ++ outer)
begins_nest [] outer all = refl
begins_nest (event ∷ events) outer all =
    let more : reverse (event ∷ events) ++ outer ≡ reverse events ++ (event ∷ outer) = rw (reverse-append (event ∷ []) events) (append_assoc (reverse events) (event ∷ []) outer) in
    (event ∷ outer, rw all.0 refl, rw more (begins_nest events (event ∷ outer) all.1))

all_begin_drop : (k : ℕ) (events : List Record) → AllBegin events → AllBegin (drop k events)
all_begin_drop zero events all = all
all_begin_drop (suc k) [] all = tt
all_begin_drop (suc k) (event ∷ events) all = all_begin_drop k events all.1

all_begin_take : (k : ℕ) (events : List Record) → AllBegin events → AllBegin (take k events)
all_begin_take zero events all = tt
all_begin_take (suc k) [] all = tt
all_begin_take (suc k) (event ∷ events) all = (all.0, all_begin_take k events all.1)

all_begin_append : (some more : List Record) → AllBegin some → AllBegin more → AllBegin (some ++ more)
all_begin_append [] more all later = later
all_begin_append (event ∷ some) more all later = (all.0, all_begin_append some more all.1 later)

going_on_begins : (task : Bool) (inner : List Record) → AllBegin inner → AllBegin (if task then [] else inner)
going_on_begins true inner all = tt
going_on_begins false inner all = all

-- an end at some place
end_nests : (end : Record) (place : Option ℕ) (begun : List Record) → AllBegin begun → Nests (reverse begun) (end_records end place begun) (reverse (after_end end place begun))
end_nests end None begun all = (reverse begun, refl, refl)
end_nests end (Some k) begun all =
    let inner = going_on end.point (drop (k + 1) begun) in
    let parts : reverse begun ≡ reverse (drop k begun) ++ reverse (take k begun) = ap (λ (xs : List Record). reverse xs) (sym (take-append-drop k begun)) ∙ reverse-append (take k begun) (drop k begun) in
    let first : Nests (reverse begun) (all_ended (drop k begun)) (reverse (take k begun)) = rw parts (ends_nest (reverse (drop k begun)) (reverse (take k begun))) in
    let begins = going_on_begins (is_task end.point) (drop (k + 1) begun) (all_begin_drop (k + 1) begun all) in
    let later : Nests (reverse (take k begun)) inner (reverse (take k begun ++ inner)) = rw (reverse-append (take k begun) inner) (begins_nest inner (reverse (take k begun)) begins) in
    nests_on (reverse begun) (reverse (take k begun)) (reverse (take k begun ++ inner)) (all_ended (drop k begun)) inner first later

end_keeps_begins : (end : Record) (place : Option ℕ) (begun : List Record) → AllBegin begun → AllBegin (after_end end place begun)
end_keeps_begins end None begun all = all
end_keeps_begins end (Some k) begun all = all_begin_append (take k begun) (going_on end.point (drop (k + 1) begun)) (all_begin_take k begun all) (going_on_begins (is_task end.point) (drop (k + 1) begun) (all_begin_drop (k + 1) begun all))

slice_nests : (scope : Endpoint) (event : Record) (begun : List Record) → event.scope ≡ scope → AllBegin begun → Nests (reverse begun) (slice_records scope event begun) (reverse (after_slice scope event begun)) × AllBegin (after_slice scope event begun)
slice_nests Begin event begun is all = ((event ∷ reverse begun, rw is refl, sym (reverse-append begun (event ∷ []))), all_begin_append begun (event ∷ []) all (is, tt))
slice_nests End event begun is all = (end_nests event (innermost event begun) begun all, end_keeps_begins event (innermost event begun) begun all)
slice_nests Single event begun is all = ((reverse begun, refl, refl), all)

-- what is written of a record nests, on a lane on which only what begins has begun
pub record_nests : (event : Record) (begun : List Record) → AllBegin begun → Nests (reverse begun) (lane_records event begun) (reverse (lane_after event begun)) × AllBegin (lane_after event begun)
record_nests event begun all = by_point (is_span event.point)
  where
    by_point : (span : Bool) → Nests (reverse begun) (if span then slice_records event.scope event begun else moment event ∷ []) (reverse (if span then after_slice event.scope event begun else begun)) × AllBegin (if span then after_slice event.scope event begun else begun)
    by_point true = slice_nests event.scope event begun refl all
    by_point false = ((reverse begun, refl, refl), all)
