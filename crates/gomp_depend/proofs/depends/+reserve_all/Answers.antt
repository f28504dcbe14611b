use Rattle.std.proofs.Common.{◌∙◌, sym, get_or}
use Rattle.gomp_types.specs.declared.depend.Dep.{Dep}
use Rattle.gomp_types.specs.declared.depend.DepKind.TheVariants.{DepIn}
use Rattle.gomp_depend.proofs.Tables.{on_ok_then}
use Rattle.gomp_depend.proofs.Leaving.{later_items, clause_parts}
use Rattle.gomp_depend.proofs.Joining.{room_more, stands_roomy}
use Rattle.gomp_depend.proofs.depends.+reserve_all.Goals as goal

default : Dep
default = record { kind = DepIn; addr = 0 }

pub returns-in-Some-clause-room : goal.returns-in-Some-clause-room
unfolding default
returns-in-Some-clause-room t c = on_ok_then c.reserve.result (λ room a class named is.
    room_more c.args.rest.now (get_or c.args.rest.now 0 default) (later_items c.args.rest.now) c.args.items.now a c.args.parent c.in-Some.class class c.reserve_all.new.lines c.reserve.new.self
    (clause_parts c.args.rest.now default c.in-len1-up.len_at_least) named is (sym c.class_at.ensures ∙ c.in-Some.is) room (λ later. c.in_ok-reserve_all.ensures.room a class later is) c.reserve.ensures.others) c.reserve.ensures.room

pub returns-in-Some-clause-stands : goal.returns-in-Some-clause-stands
unfolding default
returns-in-Some-clause-stands t c = λ p a n line st.
    stands_roomy c.args.parent (get_or c.args.rest.now 0 default).addr c.reserve_all.new.lines c.reserve.new.self c.reserve.ensures.stands c.reserve.ensures.others p a n line (c.reserve_all.ensures.stands p a n line st)

pub returns-in-Some-clause-stood : goal.returns-in-Some-clause-stood
unfolding default
returns-in-Some-clause-stood t c = λ p a n line st.
    c.reserve_all.ensures.stood p a n line
    (stands_roomy c.args.parent (get_or c.args.rest.now 0 default).addr c.reserve.new.self c.reserve_all.new.lines c.reserve.ensures.stood (λ q b away. sym (c.reserve.ensures.others q b away)) p a n line st)
