use Rattle.std.proofs.Common.{◌≡◌, ◌<◌, ◌≤◌, ◌+◌, ◌-◌, ◌++◌, ◌∙◌, ◌⊎◌, ℕ, [], Some, true, false, length, set, get_or, refl, ap, sym, subst, arith, inl, length-set, length-append}
use Rattle.std.specs.Prelude.{if◌then◌else◌, is_some}
use Rattle.std.specs.List.{concat}
use Rattle.std.specs.VecDeque.{deque_capacity}
use Rattle.gomp_events.specs.Tasks.{contains}
use Rattle.gomp_types.proofs.Booleans.{none_of}
use Rattle.gomp_ready.specs.Marks.{mark_at, fronts}
use Rattle.gomp_ready.specs.Ready.{ReadyView, in_order, passed_at, with_taken}
use Rattle.gomp_ready.proofs.InOrder.{contains-in_order, as_many}
use Rattle.gomp_ready.proofs.Deques.{deque_within, changed_deque, counted_some, counted_none}
use Rattle.gomp_ready.proofs.Marked.{at_within, at_seen, front_among, front_at, noted_within, passed_noted, fewer_noted, all_passed, fronts_same}
use Rattle.gomp_ready.proofs.Looked.{front_again, no_shorter}
use Rattle.gomp_ready.proofs.Own.{same_ready_view, fronts_behind, some_taken, counted_if_some, own_none, view_kept}
use Rattle.gomp_ready.proofs.ready.Ready.take.Goals as goal

-- If there is none

pub returns-then-self-eq0-clause-among : goal.returns-then-self-eq0-clause-among
returns-then-self-eq0-clause-among g c m l t there =
    let inside = c.self.inside in
    subst (λ (v : ReadyView). contains t (passed_at m l v) ≡ true → contains t v.ids ≡ true) c.self.view_is (front_among inside.list.items (concat inside.deques.items) inside.marks m l t) there

-- If the member's own deque has one

pub take_from-own-requires-clause-room : goal.take_from-own-requires-clause-room
take_from-own-requires-clause-room g c =
    let inside = c.self.inside in
    let lt : c.args.member < length inside.deques.items = omega (arith, c.requires.member, ap (λ (v : ReadyView). v.members) c.self.view_is) in
    omega (arith, c.self.invariant.0, c.self.invariant.1, length-append inside.list.items (concat inside.deques.items), deque_within inside.deques.items c.args.member c.index_mut.result.now lt c.index_mut.ensures.value)

pub invariant_of-self : goal.invariant_of-self
invariant_of-self g c =
    let inside = c.self.inside in
    let own = c.take_from-own in
    let lt : c.args.member < length inside.deques.items = omega (arith, c.requires.member, ap (λ (v : ReadyView). v.members) c.self.view_is) in
    let list = own.new.list.items in
    let deques = set inside.deques.items c.args.member own.new.deque in
    let less = counted_if_some (inside.list.items ++ concat inside.deques.items) (list ++ concat deques) own.result (sym c.if-is_some.ensures) (changed_deque inside.list.items list inside.deques.items c.args.member c.index_mut.result.now own.new.deque own.result lt c.index_mut.ensures.value own.ensures.tasks) in
    let before = c.self.invariant in
    let capacity = own.ensures.capacity in
    let long = no_shorter inside.list.items list own.ensures.behind in (
      omega (arith, before.0, less),
      omega (arith, before.1, capacity),
      before.2 ∙ sym (length-set inside.deques.items c.args.member own.new.deque),
      (λ m l. omega (arith, before.3 m l, long)),
    )

pub returns-then-is_some-clause-task : goal.returns-then-is_some-clause-task
returns-then-is_some-clause-task g c =
    let inside = c.self.inside in
    let own = c.take_from-own in
    let lt : c.args.member < length inside.deques.items = omega (arith, c.requires.member, ap (λ (v : ReadyView). v.members) c.self.view_is) in
    let list = own.new.list.items in
    let deques = set inside.deques.items c.args.member own.new.deque in
    some_taken own.result c.args.self.now.ids (in_order (list ++ concat deques)) (sym (ap (λ (v : ReadyView). v.ids) c.self.view_is) ∙ changed_deque inside.list.items list inside.deques.items c.args.member c.index_mut.result.now own.new.deque own.result lt c.index_mut.ensures.value own.ensures.tasks)

pub returns-then-is_some-clause-passed : goal.returns-then-is_some-clause-passed
returns-then-is_some-clause-passed g c m l t there =
    let inside = c.self.inside in
    let own = c.take_from-own in
    let same = fronts_behind inside.marks inside.list.items own.new.list.items c.self.invariant.3 own.ensures.behind ∙ ap (λ (v : ReadyView). v.passed) c.self.view_is in
    inl (ap (λ fs. contains t (get_or (get_or fs m []) l [])) (sym same) ∙ there)

pub returns-then-is_some-clause-among : goal.returns-then-is_some-clause-among
returns-then-is_some-clause-among g c m l t there =
    let inside = c.self.inside in
    let own = c.take_from-own in
    front_among own.new.list.items (concat (set inside.deques.items c.args.member own.new.deque)) inside.marks m l t there

pub returns-then-is_some-clause-fewer : goal.returns-then-is_some-clause-fewer
returns-then-is_some-clause-fewer g c m l =
    let inside = c.self.inside in
    let own = c.take_from-own in
    let same = fronts_behind inside.marks inside.list.items own.new.list.items c.self.invariant.3 own.ensures.behind ∙ ap (λ (v : ReadyView). v.passed) c.self.view_is in
    omega (arith, ap (λ fs. length (get_or (get_or fs m []) l [])) same)

-- If it has none

pub take_further-found-requires-clause-places : goal.take_further-found-requires-clause-places
take_further-found-requires-clause-places g c =
    let inside = c.self.inside in
    let own = c.take_from-own in
    let from = at_within c.args.level inside.marks c.args.member c.at-from.result (length inside.list.items) c.at-from.ensures.value c.at-from.ensures.none c.self.invariant.3 in
    let long = no_shorter inside.list.items own.new.list.items own.ensures.behind in
    (omega (arith, from), omega (arith, long))

pub take_further-found-requires-clause-seen : goal.take_further-found-requires-clause-seen
take_further-found-requires-clause-seen g c =
    let inside = c.self.inside in
    let own = c.take_from-own in
    let same = fronts_behind inside.marks inside.list.items own.new.list.items c.self.invariant.3 own.ensures.behind ∙ ap (λ (v : ReadyView). v.passed) c.self.view_is in
    at_seen (λ t. goal.F-post g c.args.may t false) c.args.level own.new.list.items inside.marks c.args.member c.at-from.result c.at-from.ensures.value c.at-from.ensures.none
    (λ l t is there. c.requires.seen l t is (ap (λ fs. contains t (get_or (get_or fs c.args.member []) l [])) (sym same) ∙ there))

pub take_further-found-requires-clause-room : goal.take_further-found-requires-clause-room
take_further-found-requires-clause-room g c =
    let inside = c.self.inside in
    let own = c.take_from-own in
    let lt : c.args.member < length inside.deques.items = omega (arith, c.requires.member, ap (λ (v : ReadyView). v.members) c.self.view_is) in
    let list = own.new.list.items in
    let deques = set inside.deques.items c.args.member own.new.deque in
    let same = own_none inside.list.items list own.new.deque inside.deques.items c.args.member c.index_mut.result.now own.result lt c.index_mut.ensures.value (none_of own.result (sym c.if-is_some.ensures)) own.ensures.tasks in
    let capacity = own.ensures.capacity in
    omega (arith, c.self.invariant.0, c.self.invariant.1, capacity, as_many (inside.list.items ++ concat inside.deques.items) (list ++ concat deques) same, length-append list (concat deques))

pub invariant_of-self-in_err-task : goal.invariant_of-self-in_err-task
invariant_of-self-in_err-task g c =
    let inside = c.self.inside in
    let own = c.take_from-own in
    let lt : c.args.member < length inside.deques.items = omega (arith, c.requires.member, ap (λ (v : ReadyView). v.members) c.self.view_is) in
    let list = own.new.list.items in
    let deques = set inside.deques.items c.args.member own.new.deque in
    let kept = own_none inside.list.items list own.new.deque inside.deques.items c.args.member c.index_mut.result.now own.result lt c.index_mut.ensures.value (none_of own.result (sym c.if-is_some.ensures)) own.ensures.tasks in
    let long = no_shorter inside.list.items list own.ensures.behind in
    let within : (m l : ℕ) → mark_at m l inside.marks ≤ length list = λ m l. omega (arith, c.self.invariant.3 m l, long) in
    let found = c.take_further-found in
    let same = counted_none (list ++ concat deques) (found.new.list.items ++ concat found.new.deques.items) found.result.task c.in_err-task.was found.ensures.tasks in
    let before = c.self.invariant in
    let as_before = as_many (inside.list.items ++ concat inside.deques.items) (list ++ concat deques) kept in
    let own_capacity = own.ensures.capacity in
    let capacity = found.ensures.capacity in (
      omega (arith, before.0, as_before, same),
      omega (arith, before.1, own_capacity, capacity),
      c.note.ensures.members ∙ before.2 ∙ sym (length-set inside.deques.items c.args.member own.new.deque) ∙ sym found.ensures.members,
      noted_within inside.marks c.note.new.self c.args.member c.args.level found.result.listed found.result.passed (length list) (length found.new.list.items) c.note.ensures.each within found.ensures.passed.1 found.ensures.longer,
    )

pub returns-in_err-task-clause-none : goal.returns-in_err-task-clause-none
returns-in_err-task-clause-none g c none t there =
    let inside = c.self.inside in
    let own = c.take_from-own in
    let list = own.new.list.items in
    let deques = set inside.deques.items c.args.member own.new.deque in
    let after = view_kept inside.list.items list own.new.deque inside.deques.items inside.marks c.args.member c.index_mut.result.now own.result (deque_capacity inside.list) (deque_capacity own.new.list) inside.count c.args.self.now c.self.view_is c.requires.member c.index_mut.ensures.value (sym c.if-is_some.ensures) own.ensures.tasks c.self.invariant.3 own.ensures.behind own.ensures.capacity in
    let all = list ++ concat deques in
    c.take_further-found.ensures.none c.in_err-task.was t (sym (contains-in_order t all) ∙ ap (λ (v : ReadyView). contains t v.ids) after ∙ there)

pub returns-in_err-task-clause-same : goal.returns-in_err-task-clause-same
returns-in_err-task-clause-same g c none =
    let inside = c.self.inside in
    let own = c.take_from-own in
    let list = own.new.list.items in
    let found = c.take_further-found in
    let after = view_kept inside.list.items list own.new.deque inside.deques.items inside.marks c.args.member c.index_mut.result.now own.result (deque_capacity inside.list) (deque_capacity own.new.list) inside.count c.args.self.now c.self.view_is c.requires.member c.index_mut.ensures.value (sym c.if-is_some.ensures) own.ensures.tasks c.self.invariant.3 own.ensures.behind own.ensures.capacity in
    same_ready_view _ _
    (found.ensures.members ∙ ap (λ (v : ReadyView). v.members) after)
    (sym (found.ensures.tasks ∙ ap (λ o. with_taken o (in_order (found.new.list.items ++ concat found.new.deques.items))) c.in_err-task.was) ∙ ap (λ (v : ReadyView). v.ids) after)
    (ap (λ n. n - inside.count) found.ensures.capacity ∙ ap (λ (v : ReadyView). v.room) after)
    refl

pub returns-in_err-task-clause-passed : goal.returns-in_err-task-clause-passed
returns-in_err-task-clause-passed g c m l t there =
    let inside = c.self.inside in
    let own = c.take_from-own in
    let list = own.new.list.items in
    let long = no_shorter inside.list.items list own.ensures.behind in
    let within : (m l : ℕ) → mark_at m l inside.marks ≤ length list = λ m l. omega (arith, c.self.invariant.3 m l, long) in
    let after = view_kept inside.list.items list own.new.deque inside.deques.items inside.marks c.args.member c.index_mut.result.now own.result (deque_capacity inside.list) (deque_capacity own.new.list) inside.count c.args.self.now c.self.view_is c.requires.member c.index_mut.ensures.value (sym c.if-is_some.ensures) own.ensures.tasks c.self.invariant.3 own.ensures.behind own.ensures.capacity in
    let found = c.take_further-found in
    subst (λ v. (contains t (passed_at m l v) ≡ true) ⊎ ((m ≡ c.args.member) × (c.args.level ≡ Some l) × goal.F-post g c.args.may t false)) after
    (passed_noted (λ u. goal.F-post g c.args.may u false) list found.new.list.items inside.marks c.note.new.self c.args.member c.args.level found.result.listed found.result.passed c.note.ensures.each within found.ensures.fronts found.ensures.looked m l t there)

pub returns-in_err-task-clause-among : goal.returns-in_err-task-clause-among
returns-in_err-task-clause-among g c m l t there =
    let found = c.take_further-found in
    front_among found.new.list.items (concat found.new.deques.items) c.note.new.self m l t there

pub returns-in_err-task-clause-fewer : goal.returns-in_err-task-clause-fewer
returns-in_err-task-clause-fewer g c m l =
    let inside = c.self.inside in
    let own = c.take_from-own in
    let list = own.new.list.items in
    let long = no_shorter inside.list.items list own.ensures.behind in
    let within : (m l : ℕ) → mark_at m l inside.marks ≤ length list = λ m l. omega (arith, c.self.invariant.3 m l, long) in
    let after = view_kept inside.list.items list own.new.deque inside.deques.items inside.marks c.args.member c.index_mut.result.now own.result (deque_capacity inside.list) (deque_capacity own.new.list) inside.count c.args.self.now c.self.view_is c.requires.member c.index_mut.ensures.value (sym c.if-is_some.ensures) own.ensures.tasks c.self.invariant.3 own.ensures.behind own.ensures.capacity in
    let found = c.take_further-found in
    let left = noted_within inside.marks c.note.new.self c.args.member c.args.level found.result.listed found.result.passed (length list) (length found.new.list.items) c.note.ensures.each within found.ensures.passed.1 found.ensures.longer in
    subst (λ v. length (passed_at m l v) ≤ length (get_or (get_or (fronts found.new.list.items c.note.new.self) m []) l []) + (if is_some c.from_residual.result then 1 else 0)) after
    (fewer_noted list found.new.list.items inside.marks c.note.new.self c.args.member c.args.level found.result.listed c.at-from.result found.result.passed c.from_residual.result c.note.ensures.each within left (λ none. (found.ensures.kept c.in_err-task.was).0) c.at-from.ensures.value found.ensures.passed.0 m l)

pub returns-in_err-task-clause-kept : goal.returns-in_err-task-clause-kept
returns-in_err-task-clause-kept g c none no_level =
    let inside = c.self.inside in
    let own = c.take_from-own in
    let list = own.new.list.items in
    let long = no_shorter inside.list.items list own.ensures.behind in
    let within : (m l : ℕ) → mark_at m l inside.marks ≤ length list = λ m l. omega (arith, c.self.invariant.3 m l, long) in
    let after = view_kept inside.list.items list own.new.deque inside.deques.items inside.marks c.args.member c.index_mut.result.now own.result (deque_capacity inside.list) (deque_capacity own.new.list) inside.count c.args.self.now c.self.view_is c.requires.member c.index_mut.ensures.value (sym c.if-is_some.ensures) own.ensures.tasks c.self.invariant.3 own.ensures.behind own.ensures.capacity in
    let found = c.take_further-found in
    let rest = found.new.list.items in
    let kept = found.ensures.kept c.in_err-task.was in
    let all = in_order (rest ++ concat found.new.deques.items) in
    same_ready_view _ _
    (found.ensures.members ∙ ap (λ (v : ReadyView). v.members) after)
    (sym (found.ensures.tasks ∙ ap (λ o. with_taken o all) c.in_err-task.was) ∙ ap (λ (v : ReadyView). v.ids) after)
    (ap (λ n. n - inside.count) found.ensures.capacity ∙ ap (λ (v : ReadyView). v.room) after)
    (ap (fronts rest) (c.note.ensures.same kept.0 no_level) ∙ fronts_same inside.marks list rest (λ m l. front_again (mark_at m l inside.marks) list rest (within m l) kept.1) ∙ ap (λ (v : ReadyView). v.passed) after)

pub returns-in_err-task-clause-looked : goal.returns-in_err-task-clause-looked
returns-in_err-task-clause-looked g c none l t is few there =
    let inside = c.self.inside in
    let own = c.take_from-own in
    let list = own.new.list.items in
    let deques = set inside.deques.items c.args.member own.new.deque in
    let after = view_kept inside.list.items list own.new.deque inside.deques.items inside.marks c.args.member c.index_mut.result.now own.result (deque_capacity inside.list) (deque_capacity own.new.list) inside.count c.args.self.now c.self.view_is c.requires.member c.index_mut.ensures.value (sym c.if-is_some.ensures) own.ensures.tasks c.self.invariant.3 own.ensures.behind own.ensures.capacity in
    let found = c.take_further-found in
    let all = found.ensures.all c.in_err-task.was in
    let mark = c.note.ensures.mark l is few ∙ all.1 in
    ap (contains t) (front_at found.new.list.items c.note.new.self c.args.member l) ∙
    all_passed list (concat deques) found.new.list.items (concat found.new.deques.items) found.result.task _ t c.in_err-task.was found.ensures.tasks all.0 mark (ap (λ (v : ReadyView). contains t v.ids) after ∙ there)

pub invariant_of-self-2 : goal.invariant_of-self-2
invariant_of-self-2 g c =
    let inside = c.self.inside in
    let own = c.take_from-own in
    let lt : c.args.member < length inside.deques.items = omega (arith, c.requires.member, ap (λ (v : ReadyView). v.members) c.self.view_is) in
    let list = own.new.list.items in
    let deques = set inside.deques.items c.args.member own.new.deque in
    let kept = own_none inside.list.items list own.new.deque inside.deques.items c.args.member c.index_mut.result.now own.result lt c.index_mut.ensures.value (none_of own.result (sym c.if-is_some.ensures)) own.ensures.tasks in
    let long = no_shorter inside.list.items list own.ensures.behind in
    let within : (m l : ℕ) → mark_at m l inside.marks ≤ length list = λ m l. omega (arith, c.self.invariant.3 m l, long) in
    let found = c.take_further-found in
    let less = counted_some (list ++ concat deques) (found.new.list.items ++ concat found.new.deques.items) found.result.task c.in_ok-task.task c.in_ok-task.was found.ensures.tasks in
    let before = c.self.invariant in
    let as_before = as_many (inside.list.items ++ concat inside.deques.items) (list ++ concat deques) kept in
    let own_capacity = own.ensures.capacity in
    let capacity = found.ensures.capacity in (
      omega (arith, before.0, as_before, less),
      omega (arith, before.1, own_capacity, capacity),
      c.note.ensures.members ∙ before.2 ∙ sym (length-set inside.deques.items c.args.member own.new.deque) ∙ sym found.ensures.members,
      noted_within inside.marks c.note.new.self c.args.member c.args.level found.result.listed found.result.passed (length list) (length found.new.list.items) c.note.ensures.each within found.ensures.passed.1 found.ensures.longer,
    )

pub returns-clause-task : goal.returns-clause-task
returns-clause-task g c =
    let inside = c.self.inside in
    let own = c.take_from-own in
    let list = own.new.list.items in
    let found = c.take_further-found in
    let after = view_kept inside.list.items list own.new.deque inside.deques.items inside.marks c.args.member c.index_mut.result.now own.result (deque_capacity inside.list) (deque_capacity own.new.list) inside.count c.args.self.now c.self.view_is c.requires.member c.index_mut.ensures.value (sym c.if-is_some.ensures) own.ensures.tasks c.self.invariant.3 own.ensures.behind own.ensures.capacity in
    sym (ap (λ (v : ReadyView). v.ids) after) ∙ found.ensures.tasks ∙ ap (λ o. with_taken o (in_order (found.new.list.items ++ concat found.new.deques.items))) c.in_ok-task.was

pub returns-clause-passed : goal.returns-clause-passed
returns-clause-passed g c m l t there =
    let inside = c.self.inside in
    let own = c.take_from-own in
    let list = own.new.list.items in
    let long = no_shorter inside.list.items list own.ensures.behind in
    let within : (m l : ℕ) → mark_at m l inside.marks ≤ length list = λ m l. omega (arith, c.self.invariant.3 m l, long) in
    let after = view_kept inside.list.items list own.new.deque inside.deques.items inside.marks c.args.member c.index_mut.result.now own.result (deque_capacity inside.list) (deque_capacity own.new.list) inside.count c.args.self.now c.self.view_is c.requires.member c.index_mut.ensures.value (sym c.if-is_some.ensures) own.ensures.tasks c.self.invariant.3 own.ensures.behind own.ensures.capacity in
    let found = c.take_further-found in
    subst (λ v. (contains t (passed_at m l v) ≡ true) ⊎ ((m ≡ c.args.member) × (c.args.level ≡ Some l) × goal.F-post g c.args.may t false)) after
    (passed_noted (λ u. goal.F-post g c.args.may u false) list found.new.list.items inside.marks c.note.new.self c.args.member c.args.level found.result.listed found.result.passed c.note.ensures.each within found.ensures.fronts found.ensures.looked m l t there)

pub returns-clause-among : goal.returns-clause-among
returns-clause-among g c m l t there =
    let found = c.take_further-found in
    front_among found.new.list.items (concat found.new.deques.items) c.note.new.self m l t there

pub returns-clause-fewer : goal.returns-clause-fewer
returns-clause-fewer g c m l =
    let inside = c.self.inside in
    let own = c.take_from-own in
    let list = own.new.list.items in
    let long = no_shorter inside.list.items list own.ensures.behind in
    let within : (m l : ℕ) → mark_at m l inside.marks ≤ length list = λ m l. omega (arith, c.self.invariant.3 m l, long) in
    let after = view_kept inside.list.items list own.new.deque inside.deques.items inside.marks c.args.member c.index_mut.result.now own.result (deque_capacity inside.list) (deque_capacity own.new.list) inside.count c.args.self.now c.self.view_is c.requires.member c.index_mut.ensures.value (sym c.if-is_some.ensures) own.ensures.tasks c.self.invariant.3 own.ensures.behind own.ensures.capacity in
    let found = c.take_further-found in
    let left = noted_within inside.marks c.note.new.self c.args.member c.args.level found.result.listed found.result.passed (length list) (length found.new.list.items) c.note.ensures.each within found.ensures.passed.1 found.ensures.longer in
    subst (λ v. length (passed_at m l v) ≤ length (get_or (get_or (fronts found.new.list.items c.note.new.self) m []) l []) + 1) after
    (fewer_noted list found.new.list.items inside.marks c.note.new.self c.args.member c.args.level found.result.listed c.at-from.result found.result.passed (Some c.in_ok-task.task) c.note.ensures.each within left (λ none. absurd (cc)) c.at-from.ensures.value found.ensures.passed.0 m l)
