-- `claim_enter` meets its contract: the member behind the pointer is lent to `enter_share` for a lifetime that is made for the call, and comes back as that leaves it.
use Rattle.std.proofs.Common.{ℕ, [], ◌∷◌, refl}
use Rattle.std.proofs.raw_atomic.Walks.{proved}
use base.Fraction.{full_share}
use base.Logic.{id⊢, sep}
use base.Fml.{ftrue, flft, flent}
use mir.Syntax.{named}
use mir.Val.{vptr}
use prog.Wp.{WpFn}
use contract.Monad.{fact}
use contract.Running.{tables}
use types.Logic.{sem}
use types.Kit.{‵, raw, ◌⊛◌, some, later, prop, ◌$◌, ◌∵◌, !, qed, done, move, keep, use1, use2, use3, split, join, fsplit, pick, await, regoal, suffices, frame, group, show}
use types.Run.{enter, of_opd, addr, stop, no_more, and_then, returns}
use types.ByLocal.{alloc_all, pass_all, free_all, look_at, get, through, sets, lands_as}
use types.Tokens.{lft_new, lft_end}
use denote.Exit.{yes}
use denote.Lend.{lends_ref, ref_back}
use denote.Laws.{Is, shows}
use denote.Memory.{mem}
use denote.RawPtr.{Ptr, RawPtr, block_ptr, lies_at, in_a_block, rawptr_vals, rawptr_Tells}
use denote.Ref.{MutRef}
use denote.Signature.{plain}
use denote.Steps.{nothing, heard, peeks}
use denote.Triple.Call.{calls_at}
use denote.Triple.Clauses.{lasts}
use denote.Triple.Spec.{triple_of}
use denote.Triple.Table.{framed}
use denote.Triple.Walked.{Stays, walk_of, says, stay_dropped, Goes-dropped, ends_at}
use types.SemTy.{Body}
use Rattle.gomp_claim.specs.Members.{EntersShare}
use Rattle.gomp_claim.specs.contracts.claim_enter as f
use Rattle.gomp_claim.specs.contracts.member.ClaimMember.{the_row as R}
use Rattle.gomp_claim.specs.contracts.member.Done.{the_row as A}
use Rattle.gomp_claim.proofs.member.Done.TheLaws as laws
use Rattle.gomp_claim.specs.contracts.calls.enter_share as g
use Rattle.gomp_claim.proofs.calls.enter_share.Met.{met}
use Rattle.gomp_claim.proofs.claim_enter.Statement.{statement}
use Rattle.gomp_claim.proofs.claim_enter.Code as code

abbrev stayed : Stays f.ended.signature.params f.ended.kept
stayed = (stay_dropped _ yes, tt)

pub claim_enter_spec : {M : Type 1} → statement M
claim_enter_spec 𝓤 𝓛 𝓜 𝓡 wired =
    let c = f.clauses 𝓛 𝓜.mem 𝓡.returns in let W = walk_of 𝓛 f.ended stayed c in let 𝓣 = tables 𝓤 𝓛.H 𝓜 𝓡 𝓡.env in
    proved 𝓛 f.ended stayed c 𝓜 𝓡 (Goes-dropped 𝓛 0 (plain (λ _. RawPtr)) yes (λ κs x w. refl), tt)
    f.Key.name code.function (code.unfolded 𝓤 𝓛.H 𝓜 𝓡 wired)
    (λ κs. (rawptr_vals, tt)) (λ κs. (rawptr_Tells, tt)) (λ κs qs bounds a old are.
    let y : Ptr → W.Ghost = λ p. ((κs, qs, bounds, (p, tt), (rawptr_vals p, tt)), old) in
    qed 𝓛 ((‵ ftrue ⊛ ‵ (RawPtr.own_val a.0 (rawptr_vals a.0)) ⊛ ‵ ftrue) ∷ ‵ (lies_at R full_share a.0 old) ∷ []) ∵
    split ! $ keep ! (2 ∷ []) $
    -- [the member]
    in_a_block ! a.0 (λ p. lies_at R full_share p old) (id⊢ 𝓤 _) (λ b o e.
    regoal ! (λ p. prop (WpFn 𝓤 𝓛.H 𝓣.C 𝓣.Λ code.function (rawptr_vals p) (W.post (y p)))) e refl $
    enter ! _ _ _ _ _ $ alloc_all ! (λ l. pass_all ! refl ((tt, tt), tt) $
    sets ! (of_opd ! (get ! refl)) refl (tt, tt) $
    sets ! (addr ! (through ! refl (stop !))) refl (tt, tt) $
    lft_new ! tt (λ α. let κ' = α ∷ [] in move ! (1 ∷ []) $
    use1 𝓛 (later (some (λ (γ : ℕ). ‵ ((MutRef (named 0) κ' R).own_val (record { ref_ptr = (b, o); ghost_name = γ; now = old }) (vptr b o ∷ [])) ⊛ ‵ (flent κ' (Body (mem R) b o γ)))))
    (lends_ref 𝓛 R (named 0) κ' old b o) $ await ! tt $ pick ! (λ γ. split ! $
    -- [the loan; what comes back; the token of κ']
    let G = triple_of 𝓛 g.signature (g.spec 𝓛 𝓜.mem 𝓡.returns) in
    let z : G.Ghost = (((κ', tt), (full_share, tt), tt, (record { ref_ptr = (b, o); ghost_name = γ; now = old }, tt), (vptr b o ∷ [], tt)), tt) in
    nothing ! $ move ! (1 ∷ 0 ∷ []) $ join ! $
    nothing ! $ move ! (3 ∷ 0 ∷ []) $ join ! $ join ! $
    nothing ! $ move ! (1 ∷ 0 ∷ []) $ use2 𝓛 (raw (G.pre z)) (id⊢ 𝓤 _) $
    calls_at ! (framed 𝓤 𝓛.H 𝓜 (tables 𝓤 𝓛.H 𝓜 𝓡 𝓡.env)) G (met 𝓤 𝓛 𝓜 𝓡 (code.calls-gomp_claim::calls::enter_share 𝓡.env wired)) z
    (and_then ! (get ! refl) (no_more !)) (λ v.
    use1 𝓛 (later (some (λ (r : A.Denot). ((‵ (flft κ' full_share) ⊛ ‵ ftrue) ⊛ ‵ (A.own_val r (v ∷ []))) ⊛
    some (λ (ws : R.Denot × Unit {0}). ‵ (lasts g.ended z.0.0 z.0.3 ws) ⊛ raw (fact 𝓤 (EntersShare old ws.0 r.done)))))) (id⊢ 𝓤 _) $
    await ! tt $ pick ! (λ r. split ! $ split ! $ split ! $ lft_end ! tt $ move ! (3 ∷ []) $ pick ! (λ ws. split ! $ move ! (1 ∷ []) $ heard ! _ (λ is_step.
    fsplit ! $ fsplit ! $
    -- [the loan's last value; its borrow; nothing; κ' is over; nothing; the answer; what comes back]
    move ! (3 ∷ 6 ∷ 0 ∷ []) $ use3 𝓛 (later (‵ ((mem R).own_at ws.0 b o))) (ref_back 𝓛 R κ' γ ws.0 b o) $ await ! tt $
    -- [the member; its borrow; nothing; nothing; the answer]
    move ! (4 ∷ []) $ peeks ! A (Is A) (shows 𝓛 A) r (v ∷ []) (λ is. lands_as ! refl refl (((laws.the_row_laws).lawful 𝓛).typed r (v ∷ []) is).0 $
    returns ! (look_at ! 0 refl) $ free_all ! refl $ keep ! (0 ∷ 1 ∷ []) $
    -- [the answer; the member]
    suffices ! _ (ends_at 𝓛 f.ended stayed c (y (block_ptr b o)) v r (tt, tt) (tt, tt)) $
    nothing ! $ nothing ! $ join ! $ nothing ! $ group ! 3 $ frame ! $
    show ! (λ (new : R.Denot). sep 𝓤 (sem 𝓛 (lies_at R full_share (block_ptr b o) new)) (fact 𝓤 (EntersShare old new r.done))) ws.0 $ says ! is_step $ done !))))))))))
