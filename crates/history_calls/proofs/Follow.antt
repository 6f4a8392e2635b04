-- What the code's calls show is what the model asks of any program's calls: each contract's record gives the premise of `Shows`.
--     totals-seen             the totals that a caller sees are the state's
--     arrays-follow           the calls on lent arrays
--     values-follow           the calls by value
use Prim.Native.Nat.{ℕ, ◌+◌, ◌*◌}
use native.Mathlib.Omega.{arith}
use mathlib.Core.Path.{◌≡◌, refl, sym, ap, ap₂, subst, ◌∙◌}
use mathlib.Core.Bool.{true, not}
use mathlib.Core.List.{List, ◌∷◌}
use lib.Dec.{eqb, leb}
use lib.ListN.{length}
use borrow.Author.Tests.{ne_eqb}
use Rattle.base_lists.proofs.Tests.{by_test}
use Rattle.radio_telegram.specs.Frame.{frame_of}
use Rattle.radio_telegram.specs.Repeater.{RepeatResult, repeat_result, repeat_of}
use Rattle.radio_telegram.proofs.Laws.{repeat_sent}
use Rattle.collector_model.specs.declared.Totals.{Totals}
use Rattle.collector_model.specs.Answer.{Shown, Kept, Copy, Loose, Refused, is_kept, shown_of}
use Rattle.collector_model.specs.View.{Reception, View}
use Rattle.collector_model.specs.Acceptable.{acceptable}
use Rattle.collector_model.specs.Step.{StepOutcome, step, sent_for}
use Rattle.collector_model.specs.Heard.{copies_of}
use Rattle.collector_model.specs.History.{Call, Receive, Checkpoint, Restore, Cut, Burst, Ask, Look, Seen, Answered, Wrote, Restored, Delivered, Heard, Looked}
use Rattle.collector_model.specs.States.{Shows, left_by}
use Rattle.collector_model.specs.States as shows
use Rattle.collector_state.specs.declared.Collector.{Collector}
use Rattle.collector_state.specs.Collector.{view_of}
use Rattle.c_collector.specs.State.{Arrays, state_at}
use Rattle.c_collector.specs.Calls.{answer_number, Takes, TotalsCall, totals_call, copies_call}
use Rattle.c_collector.proofs.State.{taken}
use Rattle.c_burst.specs.Bytes.{receptions_in}
use Rattle.history_calls.specs.Answers.{shown_in, replies_in_places}
use Rattle.history_calls.specs.Arrays.{TotalsSeen, sent_at, ArraysShow}
use Rattle.history_calls.specs.Arrays as lent
use Rattle.history_calls.specs.Values.{sent_of, ValuesShow}
use Rattle.history_calls.specs.Values as value
use Rattle.history_calls.proofs.Answers.{Proper, answer_proper, answers-back}
use Rattle.history_calls.proofs.Bursts.{bursts_are}

-- what is shown, and the state that is left
abbrev pub Followed : {State : Type 0} → (State → View) → State → List Call → List Seen → State → Type 0
Followed {State} view c h l e = (t : Shows view c h l) × (left_by view t ≡ e)

-- ---- single calls on lent arrays

pub totals-seen : {s : Arrays} {n : Totals} → TotalsSeen s n → n ≡ (state_at s).totals
unfolding totals_call
totals-seen {s} k =
    k.seen ∙ by_test (acceptable (state_at s))
    (λ ok.
    let c = rw ok at k.called in
    rw (ap (λ (x : TotalsCall). x.number) c, ap (λ (x : TotalsCall). x.values) c))
    (λ bad.
    let c = rw bad at k.called in
    rw (ap (λ (x : TotalsCall). x.number) c))

-- only KEPT has the number 0
kept-zero : (a : Shown) → Proper a → eqb (answer_number a) 0 ≡ is_kept a
kept-zero Kept p = refl
kept-zero Copy p = refl
kept-zero Loose p = refl
kept-zero (Refused n) p = ne_eqb (256 * 0 + n) 0 (λ z. omega (arith, p.0))

pub answered : {s s' : Arrays} {r : Reception} {n : ℕ} → Takes s r n s'
    → record { answer = shown_in n; next = state_at s' } ≡ step (state_at s) r
answered {s} {s'} {r} k =
    ap₂ (λ (a : Shown) (v : View). record { answer = a; next = v })
    (ap shown_in k.answered ∙ answers-back (state_at s) r) k.next

pub sends : {s s' : Arrays} {r : Reception} {n : ℕ} (setting : ℕ)
    → Takes s r n s' → sent_at setting n r ≡ sent_for setting (shown_in n) r
unfolding sent_for
sends {s} {s'} {r} {n} setting k =
    let a = (step (state_at s) r).answer in
    let is : shown_in n ≡ a = ap (λ (o : StepOutcome). o.answer) (answered k) in
    let test : eqb n 0 ≡ is_kept a = ap (λ (x : ℕ). eqb x 0) k.answered ∙ kept-zero a (answer_proper (state_at s) r) in
    let e : (repeat_result setting r.bytes).sent ≡ frame_of (repeat_of setting r.bytes) =
    repeat_sent setting r.bytes in
    rw (is, test, e) (by_test (is_kept a) (λ y. rw y) (λ y. rw y))

copies-zero : (v : View) (k : ℕ) → copies_call v k 0 ≡ copies_of v k
unfolding copies_call copies_of
copies-zero v k =
    by_test (not (acceptable v)) (λ a. rw a)
    (λ a. by_test (leb (length v.entries) k) (λ b. rw (a, b)) (λ b. rw (a, b)))

pub heard : (v : View) (k : ℕ) {n copies : ℕ} → record { number = n; copies = copies } ≡ copies_call v k 0
    → record { number = n; copies = copies } ≡ copies_of v k
heard v k e = e ∙ copies-zero v k

-- ---- one after the other

-- a reception before what follows it
before : {s s' e : Arrays} {setting n : ℕ} {r : Reception} {t : Totals} {h : List Call} {l : List Seen}
    → Takes s r n s' → TotalsSeen s' t
    → Followed state_at s' h l e
    → Followed state_at s (Receive setting r ∷ h) (Answered (shown_in n) (sent_at setting n r) t ∷ l) e
before {s} {s'} {e} {setting} {n} {r} {t} {h} {l} k seen f =
    subst (λ (x : Totals). Followed state_at s (Receive setting r ∷ h)
    (Answered (shown_in n) (sent_at setting n r) x ∷ l) e)
    (sym (totals-seen seen))
    (shows.received (answered k) (sends setting k) f.0, f.1)

pub arrays_follow : {s e : Arrays} {h : List Call} {l : List Seen} → ArraysShow s h l e → Followed state_at s h l e
arrays_follow lent.ended = (shows.ended, refl)
arrays_follow (lent.received k t u) = before k t (arrays_follow u)
arrays_follow (lent.told {s = s} {s' = s'} {n = n} {r = r} ok k t u) =
    before (taken true s s' r n (sym ok) k) t (arrays_follow u)
arrays_follow (lent.saved {s = s} {e = e} {output = output} {after = after} {n = n} {h = h} {l = l} k t u) =
    let f = arrays_follow u in
    subst (λ (x : Totals). Followed state_at s (Checkpoint output ∷ h) (Wrote n after x ∷ l) e)
    (sym (totals-seen t)) (shows.saved k f.0, f.1)
arrays_follow (lent.restored {s = s} {e = e} {image = image} {n = n} {h = h} {l = l} k t u) =
    let f = arrays_follow u in
    subst (λ (x : Totals). Followed state_at s (Restore image ∷ h) (Restored n x ∷ l) e)
    (sym (totals-seen t)) (shows.restored k.result f.0, f.1)
arrays_follow (lent.resumed {s = s} {d = d} {e = e} {output = output}
    {after = after} {n = n} {m = m} {u = u} {h = h} {l = l} k t z q w rest) =
    let f = arrays_follow rest in
    subst (λ (x : Totals). Followed state_at s (Cut output ∷ h) (Wrote n after x ∷ Restored m u ∷ l) e)
    (sym (totals-seen t))
    (subst (λ (x : Totals). Followed state_at s (Cut output ∷ h)
    (Wrote n after (state_at s).totals ∷ Restored m x ∷ l) e)
    (sym (totals-seen w))
    (shows.resumed {d = d} k z.state q.result f.0, f.1))
arrays_follow (lent.delivered {s = s} {e = e} {setting = setting} {n = n}
    {moments = moments} {records = records} {old = old} {new = new} {h = h} {l = l}
    sized k t u) =
    let f = arrays_follow u in
    let rs = receptions_in moments records in
    subst (λ (x : Totals). Followed state_at s (Burst setting rs (replies_in_places old) ∷ h)
    (Delivered n (replies_in_places new) x ∷ l) e)
    (sym (totals-seen t))
    (shows.delivered {rs = rs} {places = replies_in_places old} (bursts_are sized k) f.0, f.1)
arrays_follow (lent.asked {s = s} {e = e} {k = k} {n = n} {copies = copies} {h = h} {l = l} a t u) =
    let f = arrays_follow u in
    subst (λ (x : Totals). Followed state_at s (Ask k ∷ h) (Heard n copies x ∷ l) e)
    (sym (totals-seen t)) (shows.asked (heard (state_at s) k a) f.0, f.1)
arrays_follow (lent.looked {s = s} {e = e} {h = h} {l = l} t u) =
    let f = arrays_follow u in
    subst (λ (x : Totals). Followed state_at s (Look ∷ h) (Looked x ∷ l) e)
    (sym (totals-seen t)) (shows.looked f.0, f.1)

pub values_follow : {c e : Collector} {h : List Call} {l : List Seen} → ValuesShow c h l e → Followed view_of c h l e
unfolding sent_for
values_follow value.ended = (shows.ended, refl)
values_follow (value.received {setting = setting} {r = r} t q k sent u) =
    let f = values_follow u in
    let is = ap (λ (x : RepeatResult). x.sent) sent ∙ repeat_sent setting r.bytes in
    let sends : sent_of (shown_of t.answer) q ≡ sent_for setting (shown_of t.answer) r =
    by_test (is_kept (shown_of t.answer)) (λ y. rw (y, is)) (λ y. rw y)
    in
    (shows.received k.outcome sends f.0, f.1)
values_follow (value.saved s k u) =
    let f = values_follow u in
    (shows.saved k f.0, f.1)
values_follow (value.restored q k u) =
    let f = values_follow u in
    (shows.restored k.result f.0, f.1)
values_follow (value.resumed {d = d} s q k z w u) =
    let f = values_follow u in
    (shows.resumed {d = d} k z.state w.result f.0, f.1)
values_follow (value.delivered b k u) =
    let f = values_follow u in
    (shows.delivered k.result f.0, f.1)
values_follow (value.asked a k u) =
    let f = values_follow u in
    (shows.asked k f.0, f.1)
values_follow (value.looked u) =
    let f = values_follow u in
    (shows.looked f.0, f.1)
