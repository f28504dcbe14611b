-- A history that is handed out is that of the board, which its lock gave back.
use Rattle.std.proofs.Common.{ℕ, ◌≡◌, ◌↔◌, List, length, reverse, sym, ap, ◌∙◌, subst, refl, Option, Result, Ok, Err, IsOk, IfOk, IfErr}
use Rattle.std.specs.Prelude.{IsSome}
use Rattle.gomp_events.specs.declared.event.Event.{Event}
use Rattle.gomp_events.specs.Events.{clash_of}
use Rattle.gomp_ring.specs.RingSeats.{SeatView, Gathers}
use Rattle.gomp_waits.specs.Waits.{WaitBoardView}
use Rattle.gomp_team_board.specs.declared.part.PartCounts.{PartCounts}
use Rattle.gomp_team_board.specs.Counts.{counted_events}
use Rattle.gomp_team_board.specs.Locked.{team_size, KeptLaws}
use Rattle.gomp_team_board.specs.Parts.{PartView}
use Rattle.gomp_team_region.specs.declared.settle.SettleError.{SettleError}
use Rattle.gomp_team_region.specs.declared.settle.SettleError.TheVariants.{Unsettled}
use Rattle.gomp_team_region.specs.Settled.{HasNotSettled, IsSettled, IsHistory, IsCounted, LeftShares, settle_error}

pub handed_history : {X E : Type 0} (items : X → List Event) (result : Result X E) (counts given : List PartCounts) (view : WaitBoardView)
    → given ≡ counts → (IsOk result ↔ IsSettled (team_size view) given view.board.history) → IfOk result (λ history. items history ≡ view.board.history)
    → KeptLaws (team_size view) (reverse view.board.history) → IfOk result (λ history. IsHistory counts (items history))
handed_history items (Ok history) counts given view same settled is laws =
    let found = settled.0 refl in
    let size : team_size view ≡ length counts = found.size ∙ ap length same in
    let sized = subst (λ n. IsSettled n given view.board.history) size found in
    let counted = subst (λ cs. IsSettled (length counts) cs view.board.history) same sized in
    record {
      settled = subst (λ events. IsSettled (length counts) counts events) (sym is) counted;
      laws = subst (λ events. KeptLaws (length counts) (reverse events)) (sym is) (subst (λ n. KeptLaws n (reverse view.board.history)) size laws);
    }
handed_history items (Err error) counts given view same settled is laws = tt

pub handed_whole : {X E : Type 0} (items : X → List Event) (result : Result X E) (taken part : PartView) (view : WaitBoardView)
    → taken ≡ part → taken.amount ≡ counted_events view.board.history → IfOk result (λ history. items history ≡ view.board.history)
    → IfOk result (λ history. IsCounted part (items history))
handed_whole items (Ok history) taken part view same counts is = ap (λ p. p.amount) (sym same) ∙ (counts ∙ ap counted_events (sym is))
handed_whole items (Err error) taken part view same counts is = tt

-- what a history has, the work has that is handed out with it
pub handed_with_work : {X W E : Type 0} (items : X → List Event) (of : W → List Event) (history : Result X E) (work : Result W E) (P : List Event → Type 0)
    → (IsOk work → IsOk history) → IfOk work (λ w. IfOk history (λ h. of w ≡ items h)) → IfOk history (λ h. P (items h)) → IfOk work (λ w. P (of w))
handed_with_work items of (Ok h) (Ok w) P settled same holds = subst P (sym same) holds
handed_with_work items of (Err e) (Ok w) P settled same holds = absurd (cc (settled refl))
handed_with_work items of history (Err e) P settled same holds = tt

-- why none is
pub handed_refusal : {X W A : Type 0} (items : X → List Event) (history : Result X SettleError) (work : Result W SettleError) (ledger : Option A) (members : ℕ) (seats : List SeatView) (shares : ℕ) (taken : List ℕ) (counts given : List PartCounts) (part whole : PartView) (view : WaitBoardView)
    → Gathers members seats shares taken → given ≡ counts → part ≡ whole → part.amount ≡ counted_events view.board.history → KeptLaws (team_size view) (reverse view.board.history)
    → (IsOk history ↔ IsSettled (team_size view) given view.board.history) → IfOk history (λ h. items h ≡ view.board.history) → IfErr history (λ error. error ≡ settle_error (clash_of (reverse view.board.history)))
    → IfErr work (λ error. IfErr history (λ first. error ≡ first)) → IfErr work (λ error. IfOk history (λ h. (error ≡ Unsettled) × (LeftShares shares (items h) → ⊥)))
    → IfErr work (λ error. IsSome ledger → HasNotSettled members seats counts whole error)
handed_refusal items history (Ok w) ledger members seats shares taken counts given part whole view gathers same whole_is counted laws settled is refused first stayed = tt
handed_refusal items (Err e) (Err error) ledger members seats shares taken counts given part whole view gathers same whole_is counted laws settled is refused first stayed = λ back. record {
  size = team_size view;
  history = view.board.history;
  laws = laws;
  counted = ap (λ (p : PartView). p.amount) (sym whole_is) ∙ counted;
  shares = shares;
  taken = taken;
  gathered = gathers;
  cause = λ found left. absurd (cc (settled.1 (subst (λ cs. IsSettled (team_size view) cs view.board.history) (sym same) found)));
  error_is = first ∙ refused;
}
handed_refusal items (Ok h) (Err error) ledger members seats shares taken counts given part whole view gathers same whole_is counted laws settled is refused first stayed = λ back. record {
  size = team_size view;
  history = view.board.history;
  laws = laws;
  counted = ap (λ (p : PartView). p.amount) (sym whole_is) ∙ counted;
  shares = shares;
  taken = taken;
  gathered = gathers;
  cause = λ found left. stayed.1 (subst (λ events. LeftShares shares events) (sym is) left);
  error_is = stayed.0 ∙ sym (ap settle_error (settled.0 refl).unbroken);
}

-- and what was gathered
pub handed_gathered : {W E : Type 0} (shares_of : W → ℕ) (taken_of : W → List ℕ) (work : Result W E) (members : ℕ) (seats : List SeatView) (shares : ℕ) (taken : List ℕ)
    → Gathers members seats shares taken → IfOk work (λ w. shares_of w ≡ shares) → IfOk work (λ w. taken_of w ≡ taken) → IfOk work (λ w. Gathers members seats (shares_of w) (taken_of w))
handed_gathered shares_of taken_of (Ok w) members seats shares taken gathers same_shares same_taken = rw (same_shares, same_taken) gathers
handed_gathered shares_of taken_of (Err e) members seats shares taken gathers same_shares same_taken = tt
