use Rattle.gomp_types.specs.declared.call.Call.TheVariants.{Resume}
use Rattle.gomp_member_tests.proofs.KeepsParts.{call_keeps_one_of_each}
use Rattle.gomp_member_tests.proofs.OwnSeats.{call_keeps_own_seat}
use Rattle.gomp_member_tests.proofs.walkers.TestMember.try_resume.Goals as goal

pub invariant_of-self : goal.invariant_of-self
invariant_of-self g c = record { one_of_each = call_keeps_one_of_each _ Resume c.try_resume.result c.args.self.now.member c.try_resume.new.self c.try_resume.ensures.called c.args.self.now.one_of_each; own_seat = call_keeps_own_seat _ _ _ _ Resume c.try_resume.result c.args.self.now.member c.try_resume.new.self c.try_resume.ensures.called c.args.self.now.own_seat }
