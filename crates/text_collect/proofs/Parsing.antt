-- What `text_lines::parse` says of the line at a place of the input, as the loops over lines use it.
use Rattle.std.specs.Prelude.{Option, Some, None}
use mathlib.Core.Path.{◌≡◌, refl}
use mathlib.Core.Bool.{true}
use mathlib.Core.List.{List}
use Prim.Native.Nat.{ℕ, ◌+◌, ◌-◌, ◌*◌, ◌<◌, ◌≤◌}
use native.Mathlib.Omega.{arith}
use lib.ListN.{length, take, drop, length-take, length-drop}
use lib.Seq.{length-take-le}
use Rattle.base_bytes.specs.Bytes.{index_of}
use Rattle.base_lists.specs.Lists.{padded}
use Rattle.text_lines.specs.declared.Heard.{Heard}
use Rattle.text_lines.specs.declared.Line.{Line}
use Rattle.text_lines.specs.Ascii.{newline}
use Rattle.text_lines.specs.Reading.{line_reading, reception, bad, front_of, line_of, bytes_in}
use Rattle.text_lines.proofs.Answers.{len-fits, bytes_fill, said_open, said-ended, said-bad, said-reception}
use Rattle.text_lines.proofs.Whole.{said}
use Rattle.text_rows.specs.Text.{decimal_text}
use Rattle.text_rows.specs.Longest.{longest_number}
use Rattle.base_buffers.proofs.Stores.{take_rest}
use Rattle.text_program.specs.Buffer.{is_unended}
use Rattle.text_program.proofs.Segments.{open_whole}
use Rattle.text_collect.proofs.Taking.{line_at, time-room, time-short, time-text}
use Rattle.text_collect.proofs.Storing.{said-padded}

-- what was read there, with its bytes
pub record Parsed (input : List ℕ) (at : ℕ) (r : Option Line) (bytes : List ℕ) : Type 0 where
  pub told : (r ≡ line_of (front_of (drop at input))) × (bytes ≡ bytes_in (front_of (drop at input)))

-- it was read from the rest of the input, which is lent
pub parsed : (input : List ℕ) (at : ℕ) {r : Option Line} {bytes : List ℕ}
    → (let text = take (length input - at) (drop at input) in
    (r ≡ line_of (front_of text)) × (bytes ≡ bytes_in (front_of text)))
    → Parsed input at r bytes
parsed input at e = record { told = rw (take_rest input (length input) at refl) at e }

module _ {input : List ℕ} {at : ℕ} {r : Option Line} {bytes : List ℕ} (p : Parsed input at r bytes) where
  -- no line has ended
  pub none_ended : r ≡ None → is_unended (drop at input) ≡ true
  none_ended z = open_whole (drop at input) (said_open (drop at input) p.told z)

  -- a line has ended
  module _ {l : Line} (some : r ≡ Some l) where
    pub ended : (index_of newline (drop at input) < length (drop at input))
        × (l.used ≡ index_of newline (drop at input) + 1)
    ended = said-ended (drop at input) p.told some

    pub within : at ≤ length input → at + l.used ≤ length input
    within h = omega (arith, ended.0, ended.1, length-drop at input, h)

    pub says-bad : l.heard ≡ None → line_reading (line_at input at) ≡ bad
    says-bad f = said-bad (drop at input) p.told some f

    -- it is a reception
    module _ {w : Heard} (heard : l.heard ≡ Some w) where
      pub len-within : w.len ≤ length bytes
      len-within = len-fits (drop at input) p.told some heard

      pub few : w.len ≤ 64
      few = omega (arith, len-within, bytes_fill (drop at input) p.told)

      long : length (take w.len bytes) ≡ w.len
      long = length-take-le _ _ len-within

      pub says : line_reading (line_at input at) ≡ reception w.time (take w.len bytes)
      says = said-reception (drop at input) p.told some heard

      pub padded-bytes : bytes ≡ padded 64 (take w.len bytes)
      padded-bytes = said-padded (drop at input) p.told some heard

      pub spare : 2 * w.len + 2 ≤ l.used
      spare =
          omega (
            arith,
            ended.1,
            long,
            time-room (drop at input) (index_of newline (drop at input)) (omega (arith, ended.0)) (said _ says),
          )

      -- the length of its time: the line without a space, the digits of its bytes, and the newline
      module _ {n : ℕ} (e : n ≡ at + l.used - (2 * w.len + 2) - at) where
        same : n ≡ index_of newline (drop at input) - (2 * length (take w.len bytes) + 1)
        same = omega (arith, e, ended.1, long, spare)

        pub time : take n (drop at input) ≡ decimal_text w.time
        time = rw same
            (time-text (drop at input) (index_of newline (drop at input)) (omega (arith, ended.0)) (said _ says))

        pub short : length (take n (drop at input)) ≤ longest_number
        short =
            omega (
              arith,
              length-take n (drop at input),
              same,
              time-short (drop at input) (index_of newline (drop at input)) (omega (arith, ended.0)) (said _ says),
            )
