-- The rows of calls that start a share.
use Rattle.std.proofs.Common.{◌≡◌, ℕ, ◌<◌, Bool, true, false, List, [], ◌∷◌, ◌++◌, Option, Some, refl, sym, ◌∙◌, arith, inl, inr, subst, ap}
use Rattle.std.specs.Prelude.{ℤ, ◌≢◌, pos, nat_le}
use Rattle.std.proofs.lemmas.Bool.{cases_Bool}
use Rattle.gomp_types.specs.declared.refusal.Refusal.TheVariants.{TooManyShares}
use Rattle.gomp_types.specs.declared.reply.Reply.{Reply}
use Rattle.gomp_types.specs.declared.reply.Reply.TheVariants.{Chunk, Wait, Cancelled, Created, Run, TaskDone, Dropped, Refused}
use Rattle.gomp_types.specs.declared.shape.Shape.{Shape}
use Rattle.gomp_events.specs.declared.event.Event.{Event}
use Rattle.gomp_events.specs.declared.event.Event.TheVariants.{Enter}
use Rattle.gomp_types.specs.Tests.{Test}
use Rattle.gomp_types.specs.Shapes.{is_loop, same_end}
use Rattle.gomp_types.specs.declared.loop_desc.EndKind.TheVariants.{Cancellable}
use Rattle.gomp_types.specs.Deals.{schedule}
use Rattle.gomp_events.specs.Laws.{Always}
use Rattle.gomp_laws.specs.Rules.{TeamRule}
use Rattle.gomp_shares.specs.Rules.{MayEnter}
use Rattle.gomp_events.specs.Events.{shares_entered, has_room, open_share, holds_piece, in_part, shape_at}
use Rattle.gomp_types.proofs.Booleans.{none_of, same_number}
use Rattle.gomp_types.proofs.Compared.{same_shapes}
use Rattle.gomp_types.proofs.Dealing.{schedule_deals, shape_tiles}
use Rattle.gomp_types.proofs.LeastTests.{AllFail, fail_first}
use Rattle.gomp_shares.proofs.OrWaits.{full_waits, one_answer_or_wait, room_starts, start_is_dealt, waits_or_not}
use Rattle.gomp_shares.specs.Starts.{Deals, Starts, start_tests, compared_share, behind, entry_and}
use Rattle.gomp_model.specs.Past.{Past}
use Rattle.gomp_model.specs.Row.{Row, outside_row}
use Rattle.gomp_model.specs.Starts.{share_room, start_row}
use Rattle.gomp_model.proofs.Admitted.{by_place_fails, compared_fails}
use Rattle.gomp_types.specs.declared.refusal.Place.TheVariants.{Share}
use Rattle.gomp_types.specs.Limits.{shown_number}
use Rattle.gomp_laws.proofs.Sound.{AreOwn, own_append, own_given, memoryless, clean_append, IsAdmittedMember, IsSound, quiet, outside_lasts}
use Rattle.gomp_laws.proofs.Cancels.{waits_uncancelled_sound}
use Rattle.gomp_laws.proofs.CallsKeep.{regroup_rules}

one_start : (deals : Deals) (members m : ℕ) (shape : Shape) (a b : Reply) (h : List Event) →
    (deals members m (Some (shares_entered m h, shape)) a h → deals members m (Some (shares_entered m h, shape)) b h → a ≡ b) → Starts deals members m shape a h → Starts deals members m shape b h → a ≡ b
one_start deals members m shape a b h one x y =
    one_answer_or_wait (has_room members (shares_entered m h) h) (λ given. deals members m (Some (shares_entered m h, shape)) given h) a b one x y

-- what a share answers is no refusal, and nothing on tasks or a cancelled region
abbrev pub IsShareReply : Reply → Type 0
IsShareReply (Refused refusal) = ⊥
IsShareReply (Created task) = ⊥
IsShareReply (Run task code arg own) = ⊥
IsShareReply (TaskDone task waiting) = ⊥
IsShareReply Cancelled = ⊥
IsShareReply Dropped = ⊥
IsShareReply _ = Unit {0}

-- what a construct that is a share tells of its start: its shape, its own tests, its answers, and what these give
pub record IsDeal (own : List Test) (shape : Shape) (deals : Deals) (Given : ℕ → Shape → ℕ → Reply → List Event) : Type 0 where
  pub one : (members m : ℕ) (share : Option (ℕ × Shape)) (a b : Reply) (h : List Event) → deals members m share a h → deals members m share b h → a ≡ b
  pub by_share : (members m : ℕ) (share : Option (ℕ × Shape)) (reply : Reply) (h : List Event) → deals members m share reply h → IsShareReply reply
  -- a chunk has an iteration
  pub counts : (members m share : ℕ) (first : ℤ) (count : ℕ) (h : List Event) → m < members → deals members m (Some (share, shape)) (Chunk first count) h → 0 < count
  pub some : (members m share : ℕ) (h : List Event) → m < members → AllFail own → (reply : Reply) × deals members m (Some (share, shape)) reply h
  pub still : (share m : ℕ) → Given share shape m Wait ≡ []
  pub given_own : (share m : ℕ) (reply : Reply) → AreOwn quiet m (Given share shape m reply)
  pub moves : AllFail own → shape.incr ≢ pos 0
  pub chunked : 0 < shape.chunk
  pub ordered : shape.ordered ≡ true → is_loop shape.kind ≡ true
  pub unordered : AllFail own → same_end shape.end_kind Cancellable ≡ true → shape.ordered ≡ false
  -- the member has entered the share
  pub keeps : (members m share : ℕ) (reply : Reply) (h : List Event) → AllFail own → deals members m (Some (share, shape)) reply h →
      open_share m (Enter share m shape ∷ h) ≡ Some (share, shape) → in_part m (Enter share m shape ∷ h) ≡ false → holds_piece m (Enter share m shape ∷ h) ≡ false →
      Always (TeamRule members) (Enter share m shape ∷ h) → Always (TeamRule members) (Given share shape m reply ++ (Enter share m shape ∷ h))
  pub no_memory : memoryless own ≡ true

behind_own : (m : ℕ) (first : Event) (events : List Event) → AreOwn quiet m events → AreOwn quiet m (first ∷ []) → AreOwn quiet m (behind first events)
behind_own m first [] own one = tt
behind_own m first (event ∷ events) own one = own_append quiet m (event ∷ events) (first ∷ []) own one

entry_own : (Given : ℕ → Shape → ℕ → Reply → List Event) (shape : Shape) (m : ℕ) (h : List Event) (reply : Reply) → AreOwn quiet m (Given (shares_entered m h) shape m reply) → AreOwn quiet m (entry_and Given shape m h reply)
entry_own Given shape m h reply own = behind_own m (Enter (shares_entered m h) m shape) (Given (shares_entered m h) shape m reply) own (refl, tt)

-- the entry and what comes after it keep the rule
behind_keeps : (members : ℕ) (first : Event) (events h : List Event) → Always (TeamRule members) h → Always (TeamRule members) (events ++ (first ∷ h)) → Always (TeamRule members) (behind first events ++ h)
behind_keeps members first [] h all kept = all
behind_keeps members first (event ∷ events) h all kept = regroup_rules members (event ∷ events) (first ∷ []) h kept

start_some : (own : List Test) (shape : Shape) (deals : Deals) (Given : ℕ → Shape → ℕ → Reply → List Event) → IsDeal own shape deals Given → (members m : ℕ) (h : List Event) → m < members → AllFail own → (reply : Reply) × Starts deals members m shape reply h
start_some own shape deals Given is members m h lt fail =
    elim (cases_Bool (has_room members (shares_entered m h) h)) [
      | inl room ↦ let found = is.some members m (shares_entered m h) h lt fail in (found.0, room_starts deals members m shape found.0 h room found.1)
      | inr full ↦ (Wait, full_waits deals members m shape h full)
    ]

-- the row without what a cancelled region changes
abbrev plain_start_row : List Test → Shape → Deals → (ℕ → Shape → ℕ → Reply → List Event) → Row
plain_start_row own shape deals Given = record outside_row {
  by_place = start_tests own;
  compared = λ repeated m p. compared_share shape m p.events;
  room = share_room shape;
  starts = Some shape;
  stays = true;
  may_reply = λ m p reply. Starts deals p.terms.members m shape reply p.events;
  gives = λ m p reply. entry_and Given shape m p.events reply;
  place = λ m h. Share (shown_number (shares_entered m h));
}

enter_keeps : (own : List Test) (shape : Shape) (deals : Deals) (Given : ℕ → Shape → ℕ → Reply → List Event) → IsDeal own shape deals Given → (repeated : Bool) (m : ℕ) (p : Past) → IsAdmittedMember (plain_start_row own shape deals Given) repeated m p →
    has_room p.terms.members (shares_entered m p.events) p.events ≡ true → MayEnter (schedule p.terms.members) p.terms.members (shares_entered m p.events) m shape p.events
enter_keeps own shape deals Given is repeated m p ready room =
    let member = ready.member in
    let fail = by_place_fails ready.admitted.parts refl refl in record {
      member = member;
      number = refl;
      outside = none_of (open_share m p.events) fail.0;
      dealt = schedule_deals p.terms.members shape (omega arith) is.chunked;
      tiles = shape_tiles p.terms.members shape (omega arith) is.chunked;
      moves = is.moves (fail_first own ((nat_le p.terms.limits.shares (shares_entered m p.events), TooManyShares) ∷ []) fail.1);
      ordered = is.ordered;
      unordered = is.unordered (fail_first own ((nat_le p.terms.limits.shares (shares_entered m p.events), TooManyShares) ∷ []) fail.1);
      same = same_shapes shape (shape_at (shares_entered m p.events) p.events) (compared_fails ready.admitted.parts).0;
      room = room;
    }

start_keeps : (own : List Test) (shape : Shape) (deals : Deals) (Given : ℕ → Shape → ℕ → Reply → List Event) → IsDeal own shape deals Given → (repeated : Bool) (m : ℕ) (p : Past) (reply : Reply) → IsAdmittedMember (plain_start_row own shape deals Given) repeated m p →
    Starts deals p.terms.members m shape reply p.events → Always (TeamRule p.terms.members) p.events → Always (TeamRule p.terms.members) (entry_and Given shape m p.events reply ++ p.events)
start_keeps own shape deals Given is repeated m p reply ready may all =
    elim (waits_or_not deals p.terms.members m shape reply p.events may) [
      | inl wait ↦ subst (λ (events : List Event). Always (TeamRule p.terms.members) (behind (Enter (shares_entered m p.events) m shape) events ++ p.events))
          (sym (ap (Given (shares_entered m p.events) shape m) wait.0 ∙ is.still (shares_entered m p.events) m)) all
      | inr may ↦
          let h = p.events in
          let fail = fail_first own ((nat_le p.terms.limits.shares (shares_entered m h), TooManyShares) ∷ []) (by_place_fails ready.admitted.parts refl refl).1 in
          behind_keeps p.terms.members (Enter (shares_entered m h) m shape) (Given (shares_entered m h) shape m reply) h all
          (is.keeps p.terms.members m (shares_entered m h) reply h fail may.1 (rw (same_number m) refl) (rw (same_number m) refl) (rw (same_number m) refl) (enter_keeps own shape deals Given is repeated m p ready may.0, all))
    ]

plain_start_sound : (own : List Test) (shape : Shape) (deals : Deals) (Given : ℕ → Shape → ℕ → Reply → List Event) → IsDeal own shape deals Given → IsSound (plain_start_row own shape deals Given)
plain_start_sound own shape deals Given is = record {
  decided = λ m p a b x y. inl (one_start deals p.terms.members m shape a b p.events (is.one p.terms.members m (Some (shares_entered m p.events, shape)) a b p.events) x y);
  accepts = λ m p refusal x. is.by_share p.terms.members m (Some (shares_entered m p.events, shape)) (Refused refusal) p.events (start_is_dealt deals p.terms.members m shape (Refused refusal) p.events (λ is. absurd (cc)) x);
  answered = λ repeated m p ready all. start_some own shape deals Given is p.terms.members m p.events ready.member (fail_first own ((nat_le p.terms.limits.shares (shares_entered m p.events), TooManyShares) ∷ []) (by_place_fails ready.admitted.parts refl refl).1);
  counts = λ repeated m p first count ready all may. is.counts p.terms.members m (shares_entered m p.events) first count p.events ready.member (start_is_dealt deals p.terms.members m shape (Chunk first count) p.events (λ is. absurd (cc)) may);
  begins_own = λ m p. tt;
  gives_own = λ m p reply. own_given quiet m reply (entry_and Given shape m p.events reply) (entry_own Given shape m p.events reply (is.given_own (shares_entered m p.events) m reply));
  begins_keep = λ m p ready all. all;
  gives_keep = λ repeated m p reply ready may all. start_keeps own shape deals Given is repeated m p reply ready may all;
  still = λ stays m p. (refl, ap (behind (Enter (shares_entered m p.events) m shape)) (is.still (shares_entered m p.events) m));
  placed = λ stays m h. refl;
  outside = λ arrives m p fail. absurd (cc);
  tells = λ arrives m p reply may. absurd (cc);
  one_pass = λ arrives m p. absurd (cc);
  arrives_there = λ arrives m p. absurd (cc);
  waits_quietly = λ arrives m p. absurd (cc);
  lasts = λ repeated m p ready all may. outside_lasts ready refl (λ arrives fail. fail.0) may;
  waits_for = λ key m p holds may. absurd (cc);
  tells_count = λ key repeated m count p holds ready all may. absurd (cc);
  runs = λ m p task code arg own may. absurd (is.by_share p.terms.members m (Some (shares_entered m p.events, shape)) (Run task code arg own) p.events (start_is_dealt deals p.terms.members m shape (Run task code arg own) p.events (λ is. absurd (cc)) may));
  ends = λ m p task waiting may. absurd (is.by_share p.terms.members m (Some (shares_entered m p.events, shape)) (TaskDone task waiting) p.events (start_is_dealt deals p.terms.members m shape (TaskDone task waiting) p.events (λ is. absurd (cc)) may));
  created = λ repeated m p task ready may. absurd (is.by_share p.terms.members m (Some (shares_entered m p.events, shape)) (Created task) p.events (start_is_dealt deals p.terms.members m shape (Created task) p.events (λ is. absurd (cc)) may));
  cancelled = λ m p may. absurd (is.by_share p.terms.members m (Some (shares_entered m p.events, shape)) Cancelled p.events (start_is_dealt deals p.terms.members m shape Cancelled p.events (λ is. absurd (cc)) may));
  dropped = λ repeated m p ready all may. absurd (is.by_share p.terms.members m (Some (shares_entered m p.events, shape)) Dropped p.events (start_is_dealt deals p.terms.members m shape Dropped p.events (λ is. absurd (cc)) may));
  allowed = λ cancels m p. absurd (cc);
  no_memory = λ m p. (clean_append own ((nat_le p.terms.limits.shares (shares_entered m p.events), TooManyShares) ∷ []) is.no_memory refl, refl, refl, refl, λ repeated. refl);
  words_keep = λ puts repeated m p reply ready may all. absurd (cc);
}

pub start_sound : (own : List Test) (shape : Shape) (deals : Deals) (Given : ℕ → Shape → ℕ → Reply → List Event) → IsDeal own shape deals Given → IsSound (start_row own shape deals Given)
start_sound own shape deals Given is =
    waits_uncancelled_sound (plain_start_row own shape deals Given) (plain_start_sound own shape deals Given is) (record {
      silent = refl;
      holds = refl;
      harmless = refl;
      wordless = refl;
      never = λ m p may. is.by_share p.terms.members m (Some (shares_entered m p.events, shape)) Cancelled p.events (start_is_dealt deals p.terms.members m shape Cancelled p.events (λ is. absurd (cc)) may);
    })
