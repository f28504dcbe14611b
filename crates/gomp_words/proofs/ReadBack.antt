-- Each call is read back from its words.
use Rattle.std.proofs.Common.{ℕ, ◌≡◌, ◌≤◌, ◌<◌, ◌^◌, Bool, true, false, List, [], ◌∷◌, length, Option, Some, None, refl, ◌∙◌, arith, ap, ℤ, FitsSigned, w64}
use Rattle.std.proofs.lemmas.Int.{to_z-of_z}
use Rattle.std.proofs.lemmas.Bool.Decides.{nat_tests}
use Rattle.std.specs.Prelude.{nat_lt, if◌then◌else◌}
use Rattle.std.specs.List.{list_all}
use Rattle.std.specs.Int.{cast_signed, cast_unsigned, from_bool}
use Rattle.std.specs.Option.{option_map}
use Rattle.gomp_types.specs.declared.call.Call.{Call}
use Rattle.gomp_types.specs.declared.call.Call.TheVariants.{LoopStart, SectionsStart, OrderedStart, TaskCreate, Cancel}
use Rattle.gomp_types.specs.declared.depend.Dep.{Dep}
use Rattle.gomp_types.specs.declared.depend.DepKind.{DepKind}
use Rattle.gomp_types.specs.declared.depend.DepKind.TheVariants.{DepIn, DepOut, DepInout, DepInoutset, DepMutex}
use Rattle.gomp_types.specs.declared.loop_desc.LoopDesc.{LoopDesc}
use Rattle.gomp_types.specs.declared.loop_desc.Sched.{Sched}
use Rattle.gomp_types.specs.declared.loop_desc.Sched.TheVariants.{Static, Dynamic, Guided, Runtime}
use Rattle.gomp_types.specs.declared.loop_desc.EndKind.{EndKind}
use Rattle.gomp_types.specs.declared.loop_desc.EndKind.TheVariants as ends
use Rattle.gomp_types.specs.declared.cancel.CancelKind.{CancelKind}
use Rattle.gomp_types.specs.declared.cancel.CancelKind.TheVariants as cancels
use Rattle.gomp_types.specs.declared.task.TaskDesc.{TaskDesc}
use Rattle.gomp_types.specs.DependItems.{kind_number}
use Rattle.gomp_types.specs.declared.call.Step.{Step}
use Rattle.gomp_words.specs.declared.step.StepRead.TheVariants as asks
use Rattle.gomp_words.specs.StepWords.{asked_by, step_of, with_member}
use Rattle.gomp_words.specs.Kinds.{sched_number, end_number, cancel_number, sched_of, end_of, cancel_of, dep_kind_of, flag_of}
use Rattle.gomp_words.specs.Calls.{call_of, given, item_words, items_of, name_of, lock_of, lock_call, is_byte, payload_of}

pub sched_read_back : (sched : Sched) → sched_of (sched_number sched) ≡ Some sched
sched_read_back Runtime = refl
sched_read_back Static = refl
sched_read_back Dynamic = refl
sched_read_back Guided = refl

pub end_read_back : (end_kind : EndKind) → end_of (end_number end_kind) ≡ Some end_kind
end_read_back ends.Wait = refl
end_read_back ends.Nowait = refl
end_read_back ends.Cancellable = refl

pub cancel_read_back : (kind : CancelKind) → cancel_of (cancel_number kind) ≡ Some kind
cancel_read_back cancels.Parallel = refl
cancel_read_back cancels.Loop = refl
cancel_read_back cancels.Sections = refl
cancel_read_back cancels.Taskgroup = refl

pub dep_kind_read_back : (kind : DepKind) → dep_kind_of (kind_number kind) ≡ Some kind
dep_kind_read_back DepIn = refl
dep_kind_read_back DepOut = refl
dep_kind_read_back DepInout = refl
dep_kind_read_back DepInoutset = refl
dep_kind_read_back DepMutex = refl

pub flag_read_back : (flag : Bool) → flag_of (from_bool flag) ≡ Some flag
flag_read_back false = refl
flag_read_back true = refl

-- one item, and those behind it
item_read_back : (item : Dep) (items : List Dep) (kind : Option DepKind) (more : Option (List Dep)) → kind ≡ Some item.kind → more ≡ Some items →
    given kind (λ kind. option_map (λ items. record { kind = kind; addr = item.addr } ∷ items) more) ≡ Some (item ∷ items)
item_read_back item items kind more k m = rw (k, m) refl

pub items_read_back : (items : List Dep) → items_of (item_words items) ≡ Some items
items_read_back [] = refl
items_read_back (item ∷ items) = item_read_back item items (dep_kind_of (kind_number item.kind)) (items_of (item_words items)) (dep_kind_read_back item.kind) (items_read_back items)

pub loop_read_back : (loop : LoopDesc) (sched : Option Sched) (ordered : Option Bool) (end_kind : Option EndKind) →
    FitsSigned w64 loop.start → FitsSigned w64 loop.end → FitsSigned w64 loop.incr → FitsSigned w64 loop.chunk →
    sched ≡ Some loop.sched → ordered ≡ Some loop.ordered → end_kind ≡ Some loop.end_kind →
    given sched (λ sched. given ordered (λ ordered. given end_kind (λ end_kind. Some (LoopStart (record {
      start = cast_signed w64 (cast_unsigned w64 loop.start);
      end = cast_signed w64 (cast_unsigned w64 loop.end);
      incr = cast_signed w64 (cast_unsigned w64 loop.incr);
      sched = sched;
      chunk = cast_signed w64 (cast_unsigned w64 loop.chunk);
      ordered = ordered;
      end_kind = end_kind;
    }))))) ≡ Some (LoopStart loop)
loop_read_back loop sched ordered end_kind fs fe fi fc s o e =
    rw (s, o, e, to_z-of_z w64 loop.start fs, to_z-of_z w64 loop.end fe, to_z-of_z w64 loop.incr fi, to_z-of_z w64 loop.chunk fc) refl

pub sections_read_back : (count : ℕ) (kind : EndKind) (end_kind : Option EndKind) → count < 2 ^ 32 → end_kind ≡ Some kind →
    (if nat_lt count (2 ^ 32) then given end_kind (λ end_kind. Some (SectionsStart count end_kind)) else None) ≡ Some (SectionsStart count kind)
sections_read_back count kind end_kind below e = rw e (grind (arith, nat_tests))

pub payload_read_back : (payload : List ℕ) → length payload ≤ 8 → payload_of payload ≡ Some payload
payload_read_back payload few = grind (arith, nat_tests)

pub value_read_back : (value : ℤ) → FitsSigned w64 value → Some (OrderedStart (cast_signed w64 (cast_unsigned w64 value))) ≡ Some (OrderedStart value)
value_read_back value fits = ap (λ v. Some (OrderedStart v)) (to_z-of_z w64 value fits)

pub name_read_back : (name : List ℕ) → length name ≤ 33 → list_all is_byte name ≡ true → name_of name ≡ Some name
name_read_back name few bytes = grind (arith, nat_tests)

lock_is : (lock : ℕ) → lock < 2 ^ 32 → lock_of (lock ∷ []) ≡ Some lock
lock_is lock below = grind (arith, nat_tests)

pub lock_read_back : (call : ℕ → Call) (lock : ℕ) → lock < 2 ^ 32 → lock_call call (lock ∷ []) ≡ Some (call lock)
lock_read_back call lock below = ap (λ found. option_map call found) (lock_is lock below)

pub task_read_back : (task : TaskDesc) (undeferred final_task : Option Bool) (items : Option (List Dep)) →
    undeferred ≡ Some task.undeferred → final_task ≡ Some task.final_task → items ≡ Some task.deps →
    given undeferred (λ undeferred. given final_task (λ final_task. given items (λ items. Some (TaskCreate (record {
      code = task.code;
      arg = task.arg;
      undeferred = undeferred;
      final_task = final_task;
      deps = items;
    }))))) ≡ Some (TaskCreate task)
task_read_back task undeferred final_task items u f i = rw (u, f, i) refl

pub cancel_call_read_back : (kind : CancelKind) (clause : Bool) (found : Option CancelKind) (flag : Option Bool) → found ≡ Some kind → flag ≡ Some clause →
    given found (λ kind. given flag (λ clause. Some (Cancel kind clause))) ≡ Some (Cancel kind clause)
cancel_call_read_back kind clause found flag k f = rw (k, f) refl

-- a call that is said is asked by its member
asked_read_back : (member : ℕ) (call : Call) → member < 2 ^ 16 → asked_by member (Some call) ≡ asks.Step (record { member = member; call = call })
asked_read_back member call below = grind (arith, nat_tests)

pub step_read_back : (words : List ℕ) (step : Step) → step.member < 2 ^ 16 → call_of words ≡ Some step.call → step_of (with_member step.member words) ≡ asks.Step step
step_read_back [] step below is = cc
step_read_back (number ∷ arguments) step below is = ap (asked_by step.member) is ∙ asked_read_back step.member step.call below
