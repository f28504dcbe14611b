use Rattle.std.proofs.Common.{◌≡◌, Some, None, sym, subst, rules}
use Rattle.gomp_lines.specs.Queues.{LineView, StandsFor}
use Rattle.gomp_depend.specs.Tables.{line_at, entry_at}
use Rattle.gomp_depend.proofs.Tables.{stands_new, stood_new, new_has_room, room_in, on_ok_then, same_back, stands_in_more_room}
use Rattle.gomp_depend.proofs.table.LineTable.reserve.Goals as goal

pub returns-in-Some-clause-stands : goal.returns-in-Some-clause-stands
returns-in-Some-clause-stands c = λ n line st.
    let before : line_at c.args.parent c.args.addr c.args.self.now ≡ c.in-Some.line.now = search rules in
    let after : line_at c.args.parent c.args.addr (record { lines = c.get_mut.follows.lender c.reserve.new.self }) ≡ c.reserve.new.self = search rules in
    subst (λ (queue : LineView). StandsFor queue n line) (sym after)
    (stands_in_more_room _ _ n line c.reserve.ensures.tasks (subst (λ (queue : LineView). StandsFor queue n line) before st))

pub returns-in-Some-clause-room : goal.returns-in-Some-clause-room
returns-in-Some-clause-room c =
    let after : entry_at c.args.parent c.args.addr (record { lines = c.get_mut.follows.lender c.reserve.new.self }) ≡ Some c.reserve.new.self = search rules in
    on_ok_then c.reserve.result (room_in c.args.class _ c.reserve.new.self after) c.reserve.ensures.room

pub returns-clause-stands : goal.returns-clause-stands
returns-clause-stands c = λ n line st.
    let none : entry_at c.args.parent c.args.addr c.args.self.now ≡ None = search rules in
    let after : line_at c.args.parent c.args.addr (record { lines = c.insert.new.self }) ≡ c.new.result = search rules in
    subst (λ (queue : LineView). StandsFor queue n line) (sym after) (stands_new _ c.new.result n line none c.new.ensures st)

pub returns-clause-room : goal.returns-clause-room
returns-clause-room c =
    let after : entry_at c.args.parent c.args.addr (record { lines = c.insert.new.self }) ≡ Some c.new.result = search rules in
    new_has_room c.args.class _ c.new.result after c.new.ensures

pub returns-in-Some-clause-stood : goal.returns-in-Some-clause-stood
returns-in-Some-clause-stood c = λ n line st.
    let before : line_at c.args.parent c.args.addr c.args.self.now ≡ c.in-Some.line.now = search rules in
    let after : line_at c.args.parent c.args.addr (record { lines = c.get_mut.follows.lender c.reserve.new.self }) ≡ c.reserve.new.self = search rules in
    subst (λ (queue : LineView). StandsFor queue n line) (sym before)
    (stands_in_more_room _ _ n line (same_back _ _ c.reserve.ensures.tasks) (subst (λ (queue : LineView). StandsFor queue n line) after st))

pub returns-clause-stood : goal.returns-clause-stood
returns-clause-stood c = λ n line st.
    let none : entry_at c.args.parent c.args.addr c.args.self.now ≡ None = search rules in
    let after : line_at c.args.parent c.args.addr (record { lines = c.insert.new.self }) ≡ c.new.result = search rules in
    stood_new _ c.new.result n line none c.new.ensures (subst (λ (queue : LineView). StandsFor queue n line) after st)
