-- Where an agent acts as memory, a host is given what the writes before its read have left.
use Rattle.std.proofs.Common.{ℕ, suc, ◌<◌, ◌≤◌, ◌≡◌, ◌+◌, ◌-◌, ◌%◌, [], ◌∷◌, ◌++◌, List, Bool, true, false, IsTrue, arith, refl, sym, ap, ap₂, ◌∙◌, subst, length, map, filter, flat_map, take, drop, zip, nat_eq, if◌then◌else◌, Option, Some, None, MatchOption, append_assoc}
use Rattle.std.proofs.lemmas.List.{map-append, length-map, take-map, drop-map}
use Rattle.std.proofs.lemmas.List.Elements.{filter-append}
use Rattle.std.proofs.lemmas.Bool.{eqb-true}
use Rattle.histories.specs.History.{before, IsPrefix, numbers}
use Rattle.histories.specs.Laws.{prefix_refl}
use Rattle.memory_runs.specs.Laws.{taken_ahead}
use Rattle.memory_runs.specs.Views.{Shape, Kind, System, Run}
use Rattle.memory_runs.specs.Views.Kind.{Reads, Writes}
use Rattle.memory_runs.specs.Operations.{Operation, own_operations, operation_of_kind, is_enabled, is_read, bytes_read, byte_at, filled_lanes, written}
use Rattle.memory_runs.specs.Operations.Operation.{Write, Read}
use Rattle.memory_runs.specs.Commands.{is_of_reads}
use Rattle.memory_runs.specs.Legal.{Word, given}
use Rattle.memory_runs.specs.Order.{Answer, Asked, Tagged, TaggedBeat, answers, answers_in, answers_to, asked, beats_taken, bytes_for, is_agent, is_read_beat, reads_for, taken, words_given_in, ActsAsMemory, HoldsAnswers, IsDefaultWord, IsWordOf, IsWordFromMemory, ReadsFromMemory, ReturnsInCommandOrder}

heads : {A : Type 0} (x y : A) (xs ys : List A) → IsPrefix (x ∷ xs) (y ∷ ys) → (x ≡ y) × IsPrefix xs ys
heads x y xs ys p = (cc' p.joins, record { rest = p.rest; joins = tails p.joins })
  where
    cc' : (x ∷ xs) ++ p.rest ≡ y ∷ ys → x ≡ y
    cc' e = cc

    tails : (x ∷ xs) ++ p.rest ≡ y ∷ ys → xs ++ p.rest ≡ ys
    tails e = cc

front_first : {A : Type 0} (front : List A) {xs ys : List A} → IsPrefix xs ys → IsPrefix (front ++ xs) (front ++ ys)
front_first front {xs} p = record { rest = p.rest; joins = append_assoc front xs p.rest ∙ ap (λ l. front ++ l) p.joins }

abbrev is_taken_read : Tagged → Bool
is_taken_read t = is_read t.operation

abbrev bytes_to : ℕ → List Answer → List ℕ
bytes_to host answers = map (λ (a : Answer). a.byte) (filter (λ (a : Answer). nat_eq a.tag host) answers)

-- one operation more
step : (host tag : ℕ) (o : Operation) (later : List Tagged) (contents : ℕ → ℕ) (given : List Answer) →
    IsPrefix (map (λ (a : Answer). a.tag) given) (map (λ (t : Tagged). t.tag) (filter is_taken_read (record { tag = tag; operation = o } ∷ later))) →
    IsPrefix (map (λ (a : Answer). a.byte) given) (bytes_read contents (o ∷ map (λ (t : Tagged). t.operation) later)) →
    ((k : ℕ → ℕ) (g : List Answer) → IsPrefix (map (λ (a : Answer). a.tag) g) (map (λ (t : Tagged). t.tag) (filter is_taken_read later)) →
    IsPrefix (map (λ (a : Answer). a.byte) g) (bytes_read k (map (λ (t : Tagged). t.operation) later)) →
    IsPrefix (map (λ (a : Answer). a.byte) (filter (λ (a : Answer). nat_eq a.tag host) g)) (bytes_for host k later)) →
    IsPrefix (map (λ (a : Answer). a.byte) (filter (λ (a : Answer). nat_eq a.tag host) given)) (bytes_for host contents (record { tag = tag; operation = o } ∷ later))
step host tag (Write offset byte) later contents given tags bytes ih = ih (written contents offset byte) given tags bytes
step host tag (Read offset) later contents [] tags bytes ih = record { rest = bytes_for host contents (record { tag = tag; operation = Read offset } ∷ later); joins = refl }
step host tag (Read offset) later contents (a ∷ given) tags bytes ih =
    let t = heads a.tag tag _ _ tags in
    let b = heads a.byte (contents offset) _ _ bytes in
    let rest = ih contents given t.1 b.1 in
    by_host (nat_eq tag host) refl t.0 b.0 rest
  where
    kept : (b : Bool) → nat_eq a.tag host ≡ b → bytes_to host (a ∷ given) ≡ (if b then a.byte ∷ [] else []) ++ bytes_to host given
    kept true e = rw e refl
    kept false e = rw e refl

    by_host : (b : Bool) → nat_eq tag host ≡ b → a.tag ≡ tag → a.byte ≡ contents offset → IsPrefix (bytes_to host given) (bytes_for host contents later) →
        IsPrefix (bytes_to host (a ∷ given)) ((if nat_eq tag host then contents offset ∷ [] else []) ++ bytes_for host contents later)
    by_host b e same byte rest =
        subst (λ l. IsPrefix l ((if nat_eq tag host then contents offset ∷ [] else []) ++ bytes_for host contents later)) (sym (kept b (ap (λ x. nat_eq x host) same ∙ e)))
        (subst (λ l. IsPrefix ((if b then a.byte ∷ [] else []) ++ bytes_to host given) l)
        (ap₂ (λ x y. (if x then y ∷ [] else []) ++ bytes_for host contents later) (sym e) byte) (front_first (if b then a.byte ∷ [] else []) rest))

-- answers that agree in tags and bytes with the reads that were taken hold what a host's reads find
found : (host : ℕ) (ts : List Tagged) (contents : ℕ → ℕ) (given : List Answer) →
    IsPrefix (map (λ (a : Answer). a.tag) given) (map (λ (t : Tagged). t.tag) (filter is_taken_read ts)) →
    IsPrefix (map (λ (a : Answer). a.byte) given) (bytes_read contents (map (λ (t : Tagged). t.operation) ts)) →
    IsPrefix (map (λ (a : Answer). a.byte) (filter (λ (a : Answer). nat_eq a.tag host) given)) (bytes_for host contents ts)
found host [] contents [] tags bytes = prefix_refl []
found host [] contents (a ∷ given) tags bytes = let bad : ⊥ = (let e = tags.joins in cc) in absurd bad
found host (t ∷ later) contents given tags bytes = step host t.tag t.operation later contents given tags bytes (λ k g. found host later k g)

-- the tags of answers are those of the reads
module _ (shape : Shape) (span : ℕ) where
  abbrev lane_tags : TaggedBeat → List ℕ
  lane_tags b = map (λ lane. b.tag) (filter (is_enabled b.beat.enables) (numbers 0 shape.word_bytes))

  abbrev ops : TaggedBeat → List Tagged
  ops b = map (λ o. record { tag = b.tag; operation = o }) (own_operations shape span b.beat)

  reads_of_kind : (kind : Kind) (tag address word : ℕ) (lanes : List ℕ) →
      map (λ (t : Tagged). t.tag) (filter is_taken_read (map (λ o. record { tag = tag; operation = o }) (map (λ lane. operation_of_kind kind ((address + lane) % span) (byte_at word lane)) lanes)))
      ≡ (if is_of_reads kind then map (λ lane. tag) lanes else [])
  reads_of_kind Reads tag address word [] = refl
  reads_of_kind Writes tag address word [] = refl
  reads_of_kind Reads tag address word (lane ∷ lanes) = ap (λ l. tag ∷ l) (reads_of_kind Reads tag address word lanes)
  reads_of_kind Writes tag address word (lane ∷ lanes) = reads_of_kind Writes tag address word lanes

  read_tags : (bs : List TaggedBeat) → map (λ (t : Tagged). t.tag) (filter is_taken_read (flat_map ops bs)) ≡ flat_map lane_tags (filter is_read_beat bs)
  read_tags [] = refl
  read_tags (b ∷ bs) =
      ap (map (λ (t : Tagged). t.tag)) (filter-append is_taken_read (ops b) (flat_map ops bs))
      ∙ map-append (λ (t : Tagged). t.tag) (filter is_taken_read (ops b)) (filter is_taken_read (flat_map ops bs))
      ∙ ap₂ (λ x y. x ++ y) (reads_of_kind b.beat.kind b.tag b.beat.address b.beat.word (filter (is_enabled b.beat.enables) (numbers 0 shape.word_bytes))) (read_tags bs)
      ∙ by_kind (is_of_reads b.beat.kind) refl
    where
      by_kind : (r : Bool) → is_of_reads b.beat.kind ≡ r →
          (if is_of_reads b.beat.kind then lane_tags b else []) ++ flat_map lane_tags (filter is_read_beat bs) ≡ flat_map lane_tags (filter is_read_beat (b ∷ bs))
      by_kind true e = rw e refl
      by_kind false e = rw e refl

  answer_tags : (rs : List TaggedBeat) (ws : List Word) →
      IsPrefix (map (λ (a : Answer). a.tag) (flat_map (λ p. answers_in shape p.0 p.1) (zip rs ws))) (flat_map lane_tags rs)
  answer_tags [] ws = prefix_refl []
  answer_tags (r ∷ rs) [] = record { rest = flat_map lane_tags (r ∷ rs); joins = refl }
  answer_tags (r ∷ rs) (w ∷ ws) =
      subst (λ l. IsPrefix l (flat_map lane_tags (r ∷ rs)))
      (sym (map-append (λ (a : Answer). a.tag) (answers_in shape r w) (flat_map (λ p. answers_in shape p.0 p.1) (zip rs ws)) ∙ ap (λ l. l ++ map (λ (a : Answer). a.tag) (flat_map (λ p. answers_in shape p.0 p.1) (zip rs ws))) (same_tags (filter (is_enabled r.beat.enables) (numbers 0 shape.word_bytes)))))
      (front_first (lane_tags r) (answer_tags rs ws))
    where
      same_tags : (lanes : List ℕ) → map (λ (a : Answer). a.tag) (map (λ lane. record { tag = r.tag; byte = byte_at w.word lane; code = w.code }) lanes) ≡ map (λ lane. r.tag) lanes
      same_tags [] = refl
      same_tags (lane ∷ lanes) = ap (λ l. r.tag ∷ l) (same_tags lanes)

module _ (system : System) (run : Run) (agent : ℕ) (contents : ℕ → ℕ) (end : ℕ) (acts : ActsAsMemory system run contents agent end) (host : ℕ) where
  -- the answers to a host are what its reads find
  finds : (c : ℕ) → c ≤ end → IsPrefix (map (λ (a : Answer). a.byte) (answers_to host (answers system run agent c))) (bytes_for host contents (taken system run agent c))
  finds c low =
      let side = system.agent agent in
      let beats = beats_taken system run agent c in
      found host (taken system run agent c) contents (answers system run agent c)
      (subst (λ l. IsPrefix (map (λ (a : Answer). a.tag) (answers system run agent c)) l) (sym (read_tags side.shape side.span beats)) (answer_tags side.shape side.span (filter is_read_beat beats) (before (words_given_in system run agent) c)))
      (acts c low)

  taken_bytes : (c number : ℕ) (w : Word) (lanes : List ℕ) → c ≤ end → HoldsAnswers lanes (drop number (answers_to host (answers system run agent c))) w →
      map (byte_at w.word) lanes ≡ take (length lanes) (drop number (bytes_for host contents (taken system run agent c)))
  taken_bytes c number w lanes low holds =
      let p = finds c low in
      let mine = answers_to host (answers system run agent c) in
      let bytes = map (λ (a : Answer). a.byte) mine in
      let enough : length lanes ≤ length (drop number bytes) = subst (λ n. length lanes ≤ n) (sym (ap length (drop-map (λ (a : Answer). a.byte) number mine) ∙ length-map (drop number mine) _)) holds.enough in
      holds.bytes ∙ sym (take-map (λ (a : Answer). a.byte) (length lanes) (drop number mine)) ∙ ap (take (length lanes)) (sym (drop-map (λ (a : Answer). a.byte) number mine))
      ∙ sym (taken_ahead bytes p.rest number (length lanes) enough) ∙ ap (λ l. take (length lanes) (drop number l)) p.joins

  by_question : (c number : ℕ) (w : Word) (o : Option Asked) → c < end → IsWordOf system run host c number w o → IsWordFromMemory system run host agent contents c number w o
  by_question c number w None low right = right
  by_question c number w (Some q) low right = by_place q.place refl right
    where
      by_place : (place : Option ℕ) → q.place ≡ place →
          MatchOption place (IsDefaultWord (system.host host) q.beat w) (λ a. HoldsAnswers (filled_lanes (system.host host).shape (system.agent a).shape q.beat.enables)
          (drop (reads_for system host a (take number (asked system run host (suc c)))) (answers_to host (answers system run a (suc c - system.stages)))) w) →
          IsTrue (is_agent agent q.place) →
          map (byte_at w.word) (filled_lanes (system.host host).shape (system.agent agent).shape q.beat.enables)
          ≡ take (length (filled_lanes (system.host host).shape (system.agent agent).shape q.beat.enables))
          (drop (reads_for system host agent (take number (asked system run host (suc c)))) (bytes_for host contents (taken system run agent (suc c - system.stages))))
      by_place None at right is = let bad : IsTrue (is_agent agent None) = subst (λ x. IsTrue (is_agent agent x)) at is in let no : ⊥ = cc in absurd no
      by_place (Some a) at right is =
          let here : IsTrue (is_agent agent (Some a)) = subst (λ x. IsTrue (is_agent agent x)) at is in
          let same : agent ≡ a = eqb-true agent a here in
          taken_bytes (suc c - system.stages) (reads_for system host agent (take number (asked system run host (suc c)))) w
          (filled_lanes (system.host host).shape (system.agent agent).shape q.beat.enables) (omega (arith, low))
          (subst (λ x. HoldsAnswers (filled_lanes (system.host host).shape (system.agent x).shape q.beat.enables)
          (drop (reads_for system host x (take number (asked system run host (suc c)))) (answers_to host (answers system run x (suc c - system.stages)))) w) (sym same) right)

  pub read_back : ReturnsInCommandOrder system run host end → ReadsFromMemory system run host agent contents end
  read_back returned = λ c low gives. by_question c _ _ _ low (returned c low gives)
