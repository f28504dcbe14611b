use Rattle.gomp_waits.proofs.wait_board.WaitBoard.new.Goals as goal

pub returns-clause-waiting : goal.returns-clause-waiting
returns-clause-waiting c = c.in_ok-vec.ensures.items_if_clones_equal (λ y e. e)
