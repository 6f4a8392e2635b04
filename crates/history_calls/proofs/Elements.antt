-- Every element of the five arrays after one call, by the record that its contract ensures.
--     took, restored, other-collector, resumed, bursted       on lent arrays
--     took-value, .., other-value, .., fresh-value             by value
use Prim.Native.Nat.{ℕ}
use mathlib.Core.Path.{◌≡◌, refl, sym, ap, ap₂, ◌∙◌}
use mathlib.Core.Bool.{Bool, true, false, cond, not, ◌&&◌}
use mathlib.Core.List.{List, [], map, flatten}
use lib.Dec.{eqb}
use lib.ListN.{length, take}
use borrow.Author.Tests.{eqb-true, eqb-false}
use Rattle.base_lists.proofs.Tests.{by_test}
use Rattle.std.specs.Prelude.{Result}
use Rattle.base_refusal.specs.declared.Refusal.{Refusal}
use Rattle.base_refusal.specs.declared.Refusal.TheVariants.{NotAccepted}
use Rattle.base_refusal.proofs.Numbers.{refused-number}
use Rattle.collector_model.specs.Answer.{is_received}
use Rattle.collector_model.specs.View.{Reception, View, fresh}
use Rattle.collector_model.specs.Acceptable.{acceptable}
use Rattle.collector_model.specs.Step.{StepOutcome, step}
use Rattle.collector_model.specs.Image.{CheckpointResult, RestoreResult, image_length, accepts, parse, checkpoint_of, restore_of}
use Rattle.collector_model.specs.Burst.{taken, BurstResult, burst_of}
use Rattle.collector_model.specs.History.{Receive, Cut, Burst}
use Rattle.collector_state.specs.declared.Collector.{Collector}
use Rattle.collector_state.specs.declared.Taken.{Taken}
use Rattle.collector_state.specs.Collector.{Columns, columns_of, columns_holding, columns_after, view_of, next_in, IsFresh}
use Rattle.collector_state.specs.Collector as collector
use Rattle.collector_checkpoint.specs.Checkpoint as images
use Rattle.collector_burst.specs.declared.Reception as reception
use Rattle.collector_burst.specs.declared.Reply.{Reply}
use Rattle.collector_burst.specs.Records.{reception_of, replied_of, columns_after_all}
use Rattle.collector_burst.specs.Records as burst
use Rattle.c_collector.specs.State.{Arrays, arrays, columns_at, state_at, numbers_of, arrays_of}
use Rattle.c_collector.specs.Calls.{Takes, Fresh}
use Rattle.c_collector.proofs.State.{numbers-counted}
use Rattle.c_checkpoint.specs.Calls.{Restores}
use Rattle.c_burst.specs.Bytes.{receptions_in, is_sized}
use Rattle.c_burst.specs.Calls.{BurstCall, Bursts}
use Rattle.history_calls.specs.Answers.{replies_in_places}
use Rattle.history_calls.specs.Elements.{arrays_with, fresh_arrays, restored_arrays, arrays_after}
use Rattle.history_calls.proofs.Bursts.{bursts_are}

-- columns and numbers are all that there is
joined : (s : Arrays) (a : Columns) (v : View) → columns_at s ≡ a → s.numbers ≡ numbers_of v → s ≡ arrays_with a v
joined s a v e f = λ i. arrays (e i).times (e i).lens (e i).bytes (e i).copies (f i)

-- the first of two, or the second
chosen : (s : Arrays) (t : Bool) (a b : Arrays) → (t ≡ true → s ≡ a) → (t ≡ false → s ≡ b) → s ≡ cond t a b
chosen s true a b f g = f refl
chosen s false a b f g = g refl

-- ---- on lent arrays

pub took : {s s' : Arrays} {r : Reception} {n : ℕ} (setting : ℕ)
    → Takes s r n s' → s' ≡ arrays_after s (Receive setting r)
took {s} {s'} {r} setting k =
    let v = state_at s in
    chosen s' (is_received (step v r).answer) (arrays_with (columns_after v r (columns_at s)) (step v r).next) s
    (λ yes. joined s' (columns_after v r (columns_at s)) (step v r).next k.elements k.counted)
    (λ no. k.stays no)

pub restored : {s s' : Arrays} {image : List ℕ} {n : ℕ} → Restores s image n s' → s' ≡ restored_arrays s image
restored {s} {s'} {image} {n} k =
    let m = (restore_of (state_at s) image).number in
    let same : n ≡ m = ap (λ (q : RestoreResult). q.number) k.result in
    chosen s' (eqb m 0) (arrays_with (columns_holding (parse image).entries) (parse image)) s
    (λ yes.
    let z : n ≡ 0 = same ∙ eqb-true m 0 yes in
    joined s' (columns_holding (parse image).entries) (parse image) (k.elements z) (k.counted z))
    (λ no. k.stays (λ z. eqb-false m 0 no (sym same ∙ z)))

-- the other collector of a cut
pub other-collector : {d : Arrays} {after written : List ℕ} → Fresh d → after ≡ written
    → restored_arrays d (take image_length after) ≡ restored_arrays fresh_arrays (take image_length written)
other-collector f w = ap₂ (λ (x : Arrays) (l : List ℕ). restored_arrays x (take image_length l)) f.zero w

pub resumed : (s : Arrays) (output : List ℕ) {d s' : Arrays} {after : List ℕ} {n m : ℕ}
    → record { number = n; output = after } ≡ checkpoint_of (state_at s) output
    → Fresh d → Restores d (take image_length after) m s' → s' ≡ arrays_after s (Cut output)
resumed s output e f k = restored k ∙ other-collector f (ap (λ (p : CheckpointResult). p.output) e)

pub bursted : {s s' : Arrays} {setting n : ℕ} {moments records old new : List ℕ}
    → is_sized (length moments) (length records) ≡ true
    → Bursts s setting moments records old n s' new
    → s' ≡ arrays_after s (Burst setting (receptions_in moments records) (replies_in_places old))
bursted {s} {s'} {setting} {n} {moments} {records} {old} sized k =
    let rs = receptions_in moments records in
    let b = burst_of setting (state_at s) rs (replies_in_places old) in
    let is = bursts_are sized k in
    let same : n ≡ b.number = ap (λ (x : BurstResult). x.number) is in
    let a = columns_after_all (state_at s) rs (columns_at s) in
    chosen s' (eqb b.number 0) (arrays_with a b.next) s
    (λ yes.
    let z : n ≡ 0 = same ∙ eqb-true b.number 0 yes in
    joined s' a b.next
    (k.elements ∙ ap (λ (x : ℕ). columns_after_all (state_at s) (taken x rs) (columns_at s)) z)
    (k.counted z ∙ ap (λ (c : BurstCall). numbers_of c.next) (sym k.result)
    ∙ ap (λ (x : BurstResult). numbers_of x.next) is))
    (λ no. k.stays (λ z. eqb-false b.number 0 no (sym same ∙ z)))

-- ---- by value

-- the numbers of a state are those of what it says
counted : (c : Collector) (v : View) → view_of c ≡ v → (arrays_of c).numbers ≡ numbers_of v
unfolding view_of
counted c v e = numbers-counted (columns_of c) c.summary ∙ ap numbers_of e

pub took_value : {c : Collector} {r : Reception} {t : Taken} (setting : ℕ) → collector.Takes c r t
    → arrays_of t.next ≡ arrays_after (arrays_of c) (Receive setting r)
unfolding view_of
took_value {c} {r} {t} setting k =
    let v = view_of c in
    let a = columns_after v r (columns_of c) in
    chosen (arrays_of t.next) (is_received (step v r).answer) (arrays_with a (step v r).next) (arrays_of c)
    (λ yes. joined (arrays_of t.next) a (step v r).next k.elements
    (counted t.next (step v r).next (ap (λ (o : StepOutcome). o.next) k.outcome)))
    (λ no. ap arrays_of (k.stays (ap (λ (o : StepOutcome). is_received o.answer) k.outcome ∙ no)))

-- a restore that is done gives what the image says
restore_done : (v : View) (image : List ℕ) → (restore_of v image).number ≡ 0 → (restore_of v image).next ≡ parse image
unfolding restore_of
restore_done v image =
    by_test (not (acceptable v && accepts image))
    (λ bad. rw bad (λ z. absurd (refused-number NotAccepted z)))
    (λ good. rw good (λ z. refl))

pub restored-value : {c : Collector} {image : List ℕ} {q : Result Collector Refusal}
    → images.Restores c image q → arrays_of (next_in c q) ≡ restored_arrays (arrays_of c) image
unfolding view_of
restored-value {c} {image} {q} k =
    let m = (restore_of (view_of c) image).number in
    let same = ap (λ (x : RestoreResult). x.number) k.result in
    let a = columns_holding (parse image).entries in
    chosen (arrays_of (next_in c q)) (eqb m 0) (arrays_with a (parse image)) (arrays_of c)
    (λ yes.
    let z = eqb-true m 0 yes in
    joined (arrays_of (next_in c q)) a (parse image) (k.elements (same ∙ z))
    (counted (next_in c q) (parse image)
    (ap (λ (x : RestoreResult). x.next) k.result ∙ restore_done (view_of c) image z)))
    (λ no. ap arrays_of (k.stays (λ z. eqb-false m 0 no (sym same ∙ z))))

pub fresh-value : {d : Collector} → IsFresh d → arrays_of d ≡ fresh_arrays
unfolding columns_holding flatten fresh
fresh-value {d} f = joined (arrays_of d) (columns_holding []) fresh f.elements (counted d fresh f.state)

pub other-value : {d : Collector} {after written : List ℕ} → IsFresh d → after ≡ written
    → restored_arrays (arrays_of d) (take image_length after) ≡ restored_arrays fresh_arrays (take image_length written)
other-value f w = ap₂ (λ (x : Arrays) (l : List ℕ). restored_arrays x (take image_length l)) (fresh-value f) w

pub resumed-value : (c : Collector) (output : List ℕ) {d : Collector} {after : List ℕ} {n : ℕ}
    {q : Result Collector Refusal}
    → record { number = n; output = after } ≡ checkpoint_of (view_of c) output
    → IsFresh d → images.Restores d (take image_length after) q
    → arrays_of (next_in d q) ≡ arrays_after (arrays_of c) (Cut output)
unfolding view_of
resumed-value c output e f k = restored-value k ∙ other-value f (ap (λ (p : CheckpointResult). p.output) e)

pub bursted_value : {c : Collector} {setting : ℕ}
    {rs : List reception.Reception} {places after : List Reply} {b : Result Collector Refusal}
    → burst.Bursts c setting rs places b after
    → arrays_of (next_in c b) ≡ arrays_after (arrays_of c) (Burst setting (map reception_of rs) (map replied_of places))
unfolding view_of
bursted_value {c} {setting} {rs} {places} {after} {b} k =
    let x = burst_of setting (view_of c) (map reception_of rs) (map replied_of places) in
    let same = ap (λ (y : BurstResult). y.number) k.result in
    let a = columns_after_all (view_of c) (map reception_of rs) (columns_of c) in
    chosen (arrays_of (next_in c b)) (eqb x.number 0) (arrays_with a x.next) (arrays_of c)
    (λ yes.
    let z = same ∙ eqb-true x.number 0 yes in
    joined (arrays_of (next_in c b)) a x.next
    (k.elements ∙ ap (λ (n : ℕ). columns_after_all (view_of c) (taken n (map reception_of rs)) (columns_of c)) z)
    (counted (next_in c b) x.next (ap (λ (y : BurstResult). y.next) k.result)))
    (λ no. ap arrays_of (k.stays (λ z. eqb-false x.number 0 no (sym same ∙ z))))
