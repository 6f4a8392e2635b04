-- A record reads back: a reader of one cell finds what was seen and what stands behind it.
--     head-totals, head-body         the head of a cell, in front of anything
--     reply-back, replies-back       replies, in front of anything
--     seen_back                      a cell
--     reads-back                     so records of things that differ differ
use Prim.Native.Nat.{ℕ, zero, suc, ◌^◌, ◌<◌}
use native.Mathlib.Omega.{arith}
use mathlib.Core.Path.{◌≡◌, refl, sym, ap, ap₂, ◌∙◌}
use mathlib.Core.Bool.{cond}
use mathlib.Core.List.{List, [], ◌∷◌, ◌++◌, append_assoc, append-nil, map, flatten}
use lib.Dec.{eqb}
use lib.ListN.{length, get_or, take, drop, length-append}
use lib.Seq.{take_at, drop_at}
use Rattle.radio_erp1.specs.Subtelegram.{max_length}
use Rattle.base_buffers.specs.Buffer.{part, resized}
use Rattle.block_layout.specs.BigEndian.{be, unbe}
use Rattle.block_layout.proofs.BigEndian.{be-length, unbe-be}
use Rattle.base_buffers.proofs.Buffer.{resized-length, resized_whole}
use Rattle.base_buffers.proofs.Segments.{start, part-nth}
use Rattle.collector_model.specs.declared.Totals.{Totals}
use Rattle.collector_model.specs.Answer.{Shown, Kept, Copy, Loose, Refused, shown_number}
use Rattle.collector_model.specs.Burst.{Replied}
use Rattle.collector_model.specs.History.{Seen, Answered, Wrote, Restored, Delivered, Heard, Looked}
use Rattle.history_replay_model.specs.Operation.{looking, receiving, saving, restoring, delivering, asking}
use Rattle.history_replay_model.specs.Record.{head_of, form_of, reply_of, seen_bytes, record_of}
use Rattle.history_replay_model.specs.Claims.{WholeTotals, WholeFrame, WholeReplies, WholeSeen, RecordReadsBack}
use Rattle.history_replay_model.proofs.Lengths.{head_length, reply-length}
use Rattle.history_replay_model.proofs.Sizes.{seen-length}

-- ---- the head

totals_at : List ℕ → Totals
totals_at b = record {
  received = unbe (part 2 8 b);
  kept = unbe (part 10 8 b);
  copies = unbe (part 18 8 b);
  loose = unbe (part 26 8 b);
  damaged = unbe (part 34 8 b);
  late = unbe (part 42 8 b);
}

module _ (operation number : ℕ) (n : Totals) (x : List ℕ) where
  -- its segments
  abbrev segments : List (List ℕ)
  segments =
      (operation ∷ number ∷ []) ∷ be 8 n.received ∷ be 8 n.kept
      ∷ be 8 n.copies ∷ be 8 n.loose ∷ be 8 n.damaged ∷ be 8
      n.late ∷ x ∷ []

  head_segments : head_of operation number n ++ x ≡ flatten segments
  unfolding head_of flatten
  head_segments = simp (append_assoc, append-nil)

  -- segment k of them is a number, at a
  number_at_lem : (k a m : ℕ) → start k segments ≡ a → get_or segments k [] ≡ be 8 m
      → m < 2 ^ 64 → unbe (part a 8 (head_of operation number n ++ x)) ≡ m
  number_at_lem k a m e is low =
      rw (head_segments, part-nth k segments a 8 e (ap length is ∙ be-length 8 m), is) (unbe-be 8 m low)

  head_totals : WholeTotals n → totals_at (head_of operation number n ++ x) ≡ n
  unfolding totals_at
  head_totals w = λ i. record {
    received = number_at_lem 1 2 n.received refl refl w.received i;
    kept = number_at_lem 2 10 n.kept (simp be-length) refl w.kept i;
    copies = number_at_lem 3 18 n.copies (simp be-length) refl w.copies i;
    loose = number_at_lem 4 26 n.loose (simp be-length) refl w.loose i;
    damaged = number_at_lem 5 34 n.damaged (simp be-length) refl w.damaged i;
    late = number_at_lem 6 42 n.late (simp be-length) refl w.late i;
  }

  head_body : drop 50 (head_of operation number n ++ x) ≡ x
  head_body = drop_at (head_of operation number n) x 50 (head_length operation number n)

  head_operation : get_or (head_of operation number n ++ x) 0 0 ≡ operation
  unfolding head_of
  head_operation = refl

  head_number : get_or (head_of operation number n ++ x) 1 0 ≡ number
  unfolding head_of
  head_number = refl

-- ---- replies

shown_in : ℕ → ℕ → Shown
shown_in form number = cond (eqb form 0) Kept (cond (eqb form 1) Copy (cond (eqb form 2) Loose (Refused number)))

shown-back : (a : Shown) → shown_in (form_of a) (shown_number a) ≡ a
unfolding shown_in
shown-back Kept = refl
shown-back Copy = refl
shown-back Loose = refl
shown-back (Refused n) = refl

reply_in : List ℕ → Replied
reply_in b =
    record {
      answer = shown_in (get_or b 0 0) (get_or b 1 0);
      sent = record { len = unbe (part 2 8 b); bytes = part 10 max_length b };
    }

module _ (r : Replied) (x : List ℕ) where
  abbrev fields : List (List ℕ)
  fields =
      (form_of r.answer ∷ shown_number r.answer ∷ [])
      ∷ be 8 r.sent.len ∷ resized max_length r.sent.bytes ∷ x ∷ []

  reply-fields : reply_of r ++ x ≡ flatten fields
  unfolding reply_of flatten
  reply-fields = simp (append_assoc, append-nil)

  len-back : WholeFrame r.sent → unbe (part 2 8 (reply_of r ++ x)) ≡ r.sent.len
  len-back w =
      rw (reply-fields, part-nth 1 fields 2 8 refl (be-length 8 r.sent.len)) (unbe-be 8 r.sent.len w.len)

  frame_back : WholeFrame r.sent → part 10 max_length (reply_of r ++ x) ≡ r.sent.bytes
  frame_back w =
      rw (reply-fields, part-nth 2 fields 10 max_length (simp be-length) (resized-length max_length r.sent.bytes))
      (resized_whole max_length r.sent.bytes w.bytes)

  answer_back : shown_in (get_or (reply_of r ++ x) 0 0) (get_or (reply_of r ++ x) 1 0) ≡ r.answer
  unfolding reply_of
  answer_back = shown-back r.answer

  reply-back : WholeFrame r.sent → reply_in (reply_of r ++ x) ≡ r
  unfolding reply_in
  reply-back w = λ i. record { answer = answer_back i; sent = record { len = len-back w i; bytes = frame_back w i } }

  reply-past : drop 31 (reply_of r ++ x) ≡ x
  reply-past = drop_at (reply_of r) x 31 (reply-length r)

-- n of them, and what stands behind them
replies_in : ℕ → List ℕ → List Replied
replies_in zero b = []
replies_in (suc n) b = reply_in b ∷ replies_in n (drop 31 b)

past_replies : ℕ → List ℕ → List ℕ
past_replies zero b = b
past_replies (suc n) b = past_replies n (drop 31 b)

replies-back : (l : List Replied) (x : List ℕ) → WholeReplies l
    → replies_in (length l) (flatten (map reply_of l) ++ x) ≡ l
unfolding replies_in flatten
replies-back [] x w = refl
replies-back (r ∷ l) x w =
    rw (
      append_assoc (reply_of r) (flatten (map reply_of l)) x,
      reply-past r (flatten (map reply_of l) ++ x),
      reply-back r (flatten
          (map reply_of l) ++ x) w.0,
      replies-back l x w.1,
    )

replies-past : (l : List Replied) (x : List ℕ) → past_replies (length l) (flatten (map reply_of l) ++ x) ≡ x
unfolding past_replies flatten
replies-past [] x = refl
replies-past (r ∷ l) x =
    let y = flatten (map reply_of l) ++ x in
    ap (λ (b : List ℕ). past_replies (length l) (drop 31 b)) (append_assoc (reply_of r) (flatten (map reply_of l)) x)
    ∙ ap (past_replies (length l)) (reply-past r y) ∙ replies-past l x

-- ---- a cell

record Cell : Type 0 where
  seen : Seen
  rest : List ℕ

-- a length, and what stands behind it
counted : List ℕ → ℕ
counted body = unbe (take 8 body)

body_in : ℕ → ℕ → Totals → List ℕ → Cell
body_in operation number n body =
    cond (eqb operation receiving)
    (record { seen = Answered (reply_in body).answer (reply_in body).sent n; rest = drop 31 body })
    (cond (eqb operation saving)
    (record { seen = Wrote number (take (counted body) (drop 8 body)) n; rest = drop (counted body) (drop 8 body) })
    (cond (eqb operation restoring) (record { seen = Restored number n; rest = body })
    (cond (eqb operation delivering)
    (record {
      seen = Delivered number (replies_in (counted body) (drop 8 body)) n;
      rest = past_replies (counted body) (drop 8 body);
    })
    (cond (eqb operation asking) (record { seen = Heard number (counted body) n; rest = drop 8 body })
    (record { seen = Looked n; rest = body })))))

seen_in : List ℕ → Cell
seen_in b = body_in (get_or b 0 0) (get_or b 1 0) (totals_at b) (drop 50 b)

head_back : (operation number : ℕ) (n : Totals) (x : List ℕ) → WholeTotals n
    → seen_in (head_of operation number n ++ x) ≡ body_in operation number n x
unfolding seen_in
head_back operation number n x w =
    rw (
      head_operation operation number n x,
      head_number operation number n x,
      head_totals operation number n x w,
      head_body operation number n x,
    )

module _ (m : ℕ) (y : List ℕ) where
  count-back : m < 2 ^ 64 → counted (be 8 m ++ y) ≡ m
  unfolding counted
  count-back low = rw (take_at (be 8 m) y 8 (be-length 8 m)) (unbe-be 8 m low)

  count_past : drop 8 (be 8 m ++ y) ≡ y
  count_past = drop_at (be 8 m) y 8 (be-length 8 m)

seen_back : (s : Seen) (x : List ℕ) → WholeSeen s → seen_in (seen_bytes s ++ x) ≡ record { seen = s; rest = x }
unfolding seen_bytes body_in
seen_back (Answered a sent n) x w =
    let r : Replied = record { answer = a; sent = sent } in
    rw (
      append_assoc (head_of receiving (shown_number a) n) (reply_of r) x,
      head_back receiving (shown_number a) n (reply_of r ++ x)
          w.1,
      reply-back r x w.0,
      reply-past r x,
    )
seen_back (Wrote number output n) x w =
    let y = output ++ x in
    rw (
      append_assoc (head_of saving number n ++ be 8 (length output)) output x,
      append_assoc (head_of saving number n) (be 8 (length output)) y,
      head_back saving number n (be 8 (length output) ++ y) w.1,
      count-back (length output) y w.0,
      count_past (length output) y,
      take_at output x (length output) refl,
      drop_at output x (length output) refl,
    )
seen_back (Restored number n) x w = head_back restoring number n x w
seen_back (Delivered number replies n) x w =
    let y = flatten (map reply_of replies) ++ x in
    rw (
      append_assoc (head_of delivering number n ++ be 8 (length replies)) (flatten (map reply_of replies)) x,
      append_assoc (head_of delivering number n) (be 8 (length replies)) y,
      head_back delivering number n (be 8 (length replies) ++ y) w.2,
      count-back (length replies) y w.0,
      count_past (length replies) y,
      replies-back replies x w.1,
      replies-past replies x,
    )
seen_back (Heard number copies n) x w =
    rw (
      append_assoc (head_of asking number n) (be 8 copies) x,
      head_back asking number n (be 8 copies ++ x) w.1,
      count-back copies x w.0,
      count_past copies x,
    )
seen_back (Looked n) x w = head_back looking 0 n x w

-- ---- records

some : (s : Seen) → 0 < length (seen_bytes s)
some (Answered a sent n) = rw seen-length (omega arith)
some (Wrote number output n) = rw seen-length (omega arith)
some (Restored number n) = rw seen-length (omega arith)
some (Delivered number replies n) = rw seen-length (omega arith)
some (Heard number copies n) = rw seen-length (omega arith)
some (Looked n) = rw seen-length (omega arith)

-- a cell is not empty
not_none : (s : Seen) (l : List Seen) → (record_of [] ≡ record_of (s ∷ l)) → ⊥
unfolding record_of flatten
not_none s l e = omega (arith, simp length-append at (ap length e), some s)

same_first : (s t : Seen) (l m : List Seen) → WholeSeen s → WholeSeen t → record_of (s ∷ l) ≡ record_of (t ∷ m)
    → ◌≡◌ {A = Cell} (record { seen = s; rest = record_of l }) (record { seen = t; rest = record_of m })
unfolding record_of flatten
same_first s t l m w u e = sym (seen_back s (record_of l) w) ∙ ap seen_in e ∙ seen_back t (record_of m) u

pub reads_back : RecordReadsBack
reads_back [] [] w u e = refl
reads_back [] (t ∷ m) w u e = absurd (not_none t m e)
reads_back (s ∷ l) [] w u e = absurd (not_none s l (sym e))
reads_back (s ∷ l) (t ∷ m) w u e =
    let f = same_first s t l m w.0 u.0 e in
    ap₂ ◌∷◌ (ap (λ (c : Cell). c.seen) f) (reads_back l m w.1 u.1 (ap (λ (c : Cell). c.rest) f))
