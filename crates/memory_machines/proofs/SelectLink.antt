-- A lane selector of commands of one beat carries commands and holds nothing.
use Rattle.std.proofs.Common.{ℕ, ◌<◌, ◌≤◌, ◌≡◌, ◌+◌, ◌-◌, ◌*◌, ◌/◌, ◌%◌, ◌^◌, [], ◌∷◌, ◌++◌, Bool, true, false, not, ◌&&◌, ◌||◌, arith, sym, ap, ap₂, ◌∙◌, append-nil, subst, length, map, flat_map, nat_eq, if◌then◌else◌, zero-mul, min}
use Rattle.std.proofs.Math.Nat.{mul-mod_left, mod-eq-sub-div-mul, div-mul-le_self}
use Rattle.memory_machines.proofs.Select.{beat_is_selected}
use Rattle.memory_machines.proofs.Joined.{sends, transfer_by}
use Rattle.memory_runs.specs.Laws.{same_pieces}
use Rattle.histories.specs.History.{only_if, is_raised}
use Rattle.memory_runs.specs.Views.{Shape}
use Rattle.memory_runs.specs.Views.Kind.{Reads, Writes}
use Rattle.memory_runs.specs.Operations.{operations_of, pieces}
use Rattle.memory_runs.specs.Commands.{Burst, Transfer, byte_address}
use Rattle.memory_machines.specs.Link.{Target, Marked, beat_operations, operations_in, closes, beats_with, is_nonempty}
use Rattle.memory_machines.specs.Link.Item.{Acts, Ends}
use Rattle.memory_machines.specs.Machines.{Raw, mark, beat_of, select_of, select_parts, Expands}

module _ (target : Target) (narrow wide : Shape) (units : wide.unit_bytes ≡ 1) (words : 0 < narrow.word_bytes) (same_words : wide.word_bytes ≡ target.shape.word_bytes) (enables : target.shape.has_enables ≡ true)
    (smaller : narrow.word_bytes ≤ target.shape.word_bytes) where
  aligned : (a : ℕ) → (a - a % wide.word_bytes) % wide.word_bytes ≡ 0
  aligned a =
      let cut : a - a % wide.word_bytes ≡ a / wide.word_bytes * wide.word_bytes = (let low = mod-eq-sub-div-mul a wide.word_bytes in let fits = div-mul-le_self a wide.word_bytes in omega (arith, low, fits)) in
      ap (λ n. n % wide.word_bytes) cut ∙ mul-mod_left (a / wide.word_bytes) wide.word_bytes

  one_piece : pieces narrow wide ≡ 1
  one_piece =
      let least : min narrow.word_bytes wide.word_bytes ≡ narrow.word_bytes = omega (arith, smaller, same_words) in
      let self : min narrow.word_bytes narrow.word_bytes ≡ narrow.word_bytes = omega arith in
      ap (λ n. narrow.word_bytes / n) least ∙ ap (λ n. narrow.word_bytes / n) (sym self) ∙ same_pieces narrow words

  tagged : (m : Marked) (b : Bool) → length m.transfer.beats ≡ 1 → (if b then 1 else 0) ≤ pieces narrow wide * length (flat_map (λ (m : Marked). m.transfer.beats) (if b then m ∷ [] else []))
  tagged m false one = omega arith
  tagged m true one = let all : pieces narrow wide * length (m.transfer.beats ++ []) ≡ 1 = ap₂ (λ p l. p * l) one_piece (ap length (append-nil m.transfer.beats) ∙ one) in omega (arith, all)

  pub select_expands : (burst : Burst) (raw : Raw) (below : Burst) → raw.levels.count ≡ 1 → burst.left ≡ 0 → below.left ≡ 0 →
      byte_address narrow raw.levels.address % target.shape.word_bytes + narrow.word_bytes ≤ target.shape.word_bytes → raw.levels.enables < 2 ^ narrow.word_bytes →
      Expands target narrow wide (select_parts narrow wide) burst raw below
  select_expands burst raw below one free none fits few =
      let beat = beat_of narrow raw.levels in
      let sent = sends target wide units raw.tag raw.more (select_of wide.word_bytes beat) [] below none (aligned beat.address, tt) in
      let place : byte_address narrow raw.levels.address + 0 * narrow.word_bytes ≡ byte_address narrow raw.levels.address = (let nothing = zero-mul narrow.word_bytes in omega (arith, nothing)) in
      let have : operations_in target narrow (mark narrow burst raw) ≡ operations_of narrow target.shape target.span beat =
      ap (λ (t : Transfer). flat_map (beat_operations target narrow) t.beats) (transfer_by narrow raw.levels burst free one (is_raised raw.levels.write)) ∙ append-nil _
      ∙ ap (λ x. operations_of narrow target.shape target.span (record { kind = if is_raised raw.levels.write then Writes else Reads; address = x; word = if is_raised raw.levels.write then raw.levels.word else 0; enables = raw.levels.enables })) place in
      let selected : operations_of narrow target.shape target.span beat ≡ operations_of wide target.shape target.span (select_of target.shape.word_bytes beat) =
      beat_is_selected narrow wide target.shape target.span words same_words enables beat fits few in
      let ops : operations_of wide target.shape target.span (select_of wide.word_bytes beat) ++ [] ≡ operations_in target narrow (mark narrow burst raw) =
      append-nil _ ∙ ap (λ d. operations_of wide target.shape target.span (select_of d beat)) same_words ∙ sym selected ∙ sym have in
      let closed : closes (mark narrow burst raw) ≡ not (is_raised raw.more) = ap (λ (t : Transfer). t.ends && not (is_raised raw.more)) (transfer_by narrow raw.levels burst free one (is_raised raw.levels.write)) in
      let one_beat : length (mark narrow burst raw).transfer.beats ≡ 1 = ap (λ (t : Transfer). length t.beats) (transfer_by narrow raw.levels burst free one (is_raised raw.levels.write)) in
      record {
        fit = sent.fit;
        free = sent.free;
        items = λ acted. sent.items acted ∙ ap₂ (λ o c. map (Acts raw.tag) o ++ only_if (c && (acted || is_nonempty o)) (Ends raw.tag)) ops (sym closed);
        acted = λ acted. sent.acted acted ∙ ap₂ (λ o c. not c && (acted || is_nonempty o)) ops (sym closed);
        operations = sent.operations ∙ ops;
        beats = λ t. subst (λ n. n ≤ pieces narrow wide * length (beats_with t (mark narrow burst raw ∷ []))) (sym (sent.beats t)) (tagged (mark narrow burst raw) (nat_eq raw.tag t) one_beat);
      }
