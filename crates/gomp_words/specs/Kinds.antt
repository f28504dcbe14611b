-- Numbers for what a call's arguments name, and what has a number. (own; those of a cancellation are libgomp's)
use Rattle.std.specs.Prelude.{ℕ, ◌==◌, Bool, true, false, Option, List, [], ◌∷◌}
use Rattle.std.specs.List.{find}
use Rattle.std.specs.Int.{from_bool}
use Rattle.gomp_types.specs.declared.loop_desc.Sched.{Sched}
use Rattle.gomp_types.specs.declared.loop_desc.Sched.TheVariants.{Static, Dynamic, Guided, Runtime}
use Rattle.gomp_types.specs.declared.loop_desc.EndKind.{EndKind}
use Rattle.gomp_types.specs.declared.loop_desc.EndKind.TheVariants as ends
use Rattle.gomp_types.specs.declared.cancel.CancelKind.{CancelKind}
use Rattle.gomp_types.specs.declared.cancel.CancelKind.TheVariants as cancels
use Rattle.gomp_types.specs.declared.depend.DepKind.{DepKind}
use Rattle.gomp_types.specs.declared.depend.DepKind.TheVariants.{DepIn, DepOut, DepInout, DepInoutset, DepMutex}
use Rattle.gomp_types.specs.DependItems.{kind_number}

abbrev pub sched_number : Sched → ℕ
sched_number Runtime = 0
sched_number Static = 1
sched_number Dynamic = 2
sched_number Guided = 3

-- what stands at the end of a construct
abbrev pub end_number : EndKind → ℕ
end_number ends.Wait = 0
end_number ends.Nowait = 1
end_number ends.Cancellable = 2

-- what a cancellation names
abbrev pub cancel_number : CancelKind → ℕ
cancel_number cancels.Parallel = 1
cancel_number cancels.Loop = 2
cancel_number cancels.Sections = 4
cancel_number cancels.Taskgroup = 8

-- the one of these that has this number
abbrev pub with_number : {A : Type 0} → (A → ℕ) → List A → ℕ → Option A
with_number number_of all n = find (λ x. number_of x == n) all

abbrev pub sched_of : ℕ → Option Sched
sched_of = with_number sched_number (Runtime ∷ Static ∷ Dynamic ∷ Guided ∷ [])

abbrev pub end_of : ℕ → Option EndKind
end_of = with_number end_number (ends.Wait ∷ ends.Nowait ∷ ends.Cancellable ∷ [])

abbrev pub cancel_of : ℕ → Option CancelKind
cancel_of = with_number cancel_number (cancels.Parallel ∷ cancels.Loop ∷ cancels.Sections ∷ cancels.Taskgroup ∷ [])

-- the kind of an item of a `depend` clause
abbrev pub dep_kind_of : ℕ → Option DepKind
dep_kind_of = with_number kind_number (DepIn ∷ DepOut ∷ DepInout ∷ DepInoutset ∷ DepMutex ∷ [])

-- whether something is so: 0 or 1
abbrev pub flag_of : ℕ → Option Bool
flag_of = with_number from_bool (false ∷ true ∷ [])
