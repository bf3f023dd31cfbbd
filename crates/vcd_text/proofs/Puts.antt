-- Parts that are written one behind the other.
use Rattle.std.proofs.Common.{◌≡◌, ℕ, zero, suc, ◌+◌, ◌<◌, ◌≤◌, ◌||◌, Bool, true, false, not, List, [], ◌∷◌, ◌++◌, length, length-append, append_assoc, take, drop, get_or, Option, Some, None, refl, sym, ap, subst, ◌∙◌, arith}
use Rattle.std.specs.Prelude.{nat_eq}
use Rattle.std.proofs.lemmas.List.{append-nil, take-append-le}
use Rattle.std.proofs.Math.Seq.{take-append-add}
use Rattle.av_files.specs.Outside.{with_more}
use Rattle.av_base.specs.Word.{Word}
use Rattle.vcd_text.specs.declared.port.DumpPort.{DumpPort}
use Rattle.vcd_text.specs.Sinks.{Written, IsCutOff, Puts, written_by}
use Rattle.vcd_text.specs.Text.{value_line, change_line, values_text, changes_text, some_change, port_line, ports_text}

pub with_nothing : (held : Option (List ℕ)) → held ≡ with_more held []
with_nothing None = refl
with_nothing (Some bytes) = ap Some (sym (append-nil bytes))

with_both : (held : Option (List ℕ)) (one other : List ℕ) → with_more (with_more held one) other ≡ with_more held (one ++ other)
with_both None one other = refl
with_both (Some bytes) one other = ap Some (append_assoc bytes one other)

behind : (held between holds : Option (List ℕ)) (done part : List ℕ) → between ≡ with_more held done → holds ≡ with_more between part → holds ≡ with_more held (done ++ part)
behind held between holds done part before now = now ∙ ap (λ (h : Option (List ℕ)). with_more h part) before ∙ with_both held done part

-- what is cut off is so with more behind it
pub cut_front : (part later : List ℕ) (written : Written) → IsCutOff part written → IsCutOff (part ++ later) written
cut_front part later written cut =
    let low : cut.count ≤ length part = (let p = cut.proper in omega arith) in
    record {
      count = cut.count;
      proper = (let p = cut.proper in omega (arith, length-append part later));
      prefix = cut.prefix ∙ ap (with_more written.held) (sym (take-append-le cut.count part later low));
      fault = cut.fault;
    }

-- the same, where another spelling is wanted
pub puts_as : (part whole : List ℕ) (written : Written) (done : Bool) → part ≡ whole → Puts part written done → Puts whole written done
puts_as part whole written done same puts = subst (λ (bs : List ℕ). Puts bs written done) same puts

cut_behind : (held between holds : Option (List ℕ)) (start middle end : ℕ) (done part : List ℕ) → between ≡ with_more held done → start ≤ middle
    → IsCutOff part (record { held = between; holds = holds; before = middle; after = end })
    → IsCutOff (done ++ part) (record { held = held; holds = holds; before = start; after = end })
cut_behind held between holds start middle end done part before rises cut =
    record {
      count = length done + cut.count;
      proper = (let p = cut.proper in omega (arith, length-append done part));
      prefix = behind held between holds done (take cut.count part) before cut.prefix ∙ ap (with_more held) (sym (take-append-add done part cut.count));
      fault = (let f = cut.fault in omega arith);
    }

-- a part behind what was written before
pub puts_behind : {A : Type 0} (held : A → Option (List ℕ)) (faults : A → ℕ) (one two three : A) (done part : List ℕ) (whole : Bool)
    → Puts done (written_by held faults one two) true → faults one ≤ faults two → Puts part (written_by held faults two three) whole
    → Puts (done ++ part) (written_by held faults one three) whole
puts_behind {A} held faults one two three done part true before rises puts = behind (held one) (held two) (held three) done part before puts
puts_behind {A} held faults one two three done part false before rises puts = cut_behind (held one) (held two) (held three) (faults one) (faults two) (faults three) done part before rises puts

-- ---- lists of lines

pub values_more : (k i : ℕ) (row : List Word) (d : Word) → i < length row → values_text k (take (i + 1) row) ≡ values_text k (take i row) ++ value_line (k + i) (get_or row i d)
values_more k i [] d h = absurd (omega arith)
values_more k zero (value ∷ row) d h = let e : k + 0 ≡ k = omega arith in rw e (append-nil (value_line k value))
values_more k (suc i) (value ∷ row) d h =
    let e : k + 1 + i ≡ k + suc i = omega arith in
    let f : suc i + 1 ≡ suc (i + 1) = omega arith in
    rw f (
    ap (λ (bs : List ℕ). value_line k value ++ bs) (values_more (k + 1) i row d (omega arith))
    ∙ sym (append_assoc (value_line k value) (values_text (k + 1) (take i row)) (value_line (k + 1 + i) (get_or row i d)))
    ∙ ap (λ (j : ℕ). value_line k value ++ values_text (k + 1) (take i row) ++ value_line j (get_or row i d)) e
    )

pub values_cut : (k j : ℕ) (row : List Word) → values_text k row ≡ values_text k (take j row) ++ values_text (k + j) (drop j row)
values_cut k zero row = let e : k + 0 ≡ k = omega arith in ap (λ (m : ℕ). values_text m row) (sym e)
values_cut k (suc j) [] = refl
values_cut k (suc j) (value ∷ row) =
    let e : k + 1 + j ≡ k + suc j = omega arith in
    ap (λ (bs : List ℕ). value_line k value ++ bs) (values_cut (k + 1) j row)
    ∙ sym (append_assoc (value_line k value) (values_text (k + 1) (take j row)) (values_text (k + 1 + j) (drop j row)))
    ∙ ap (λ (m : ℕ). value_line k value ++ values_text (k + 1) (take j row) ++ values_text m (drop j row)) e

pub ports_more : (k i : ℕ) (ports : List DumpPort) (d : DumpPort) → i < length ports → ports_text k (take (i + 1) ports) ≡ ports_text k (take i ports) ++ port_line (k + i) (get_or ports i d)
ports_more k i [] d h = absurd (omega arith)
ports_more k zero (port ∷ ports) d h = let e : k + 0 ≡ k = omega arith in rw e (append-nil (port_line k port))
ports_more k (suc i) (port ∷ ports) d h =
    let e : k + 1 + i ≡ k + suc i = omega arith in
    let f : suc i + 1 ≡ suc (i + 1) = omega arith in
    rw f (
    ap (λ (bs : List ℕ). port_line k port ++ bs) (ports_more (k + 1) i ports d (omega arith))
    ∙ sym (append_assoc (port_line k port) (ports_text (k + 1) (take i ports)) (port_line (k + 1 + i) (get_or ports i d)))
    ∙ ap (λ (j : ℕ). port_line k port ++ ports_text (k + 1) (take i ports) ++ port_line j (get_or ports i d)) e
    )

pub ports_cut : (k j : ℕ) (ports : List DumpPort) → ports_text k ports ≡ ports_text k (take j ports) ++ ports_text (k + j) (drop j ports)
ports_cut k zero ports = let e : k + 0 ≡ k = omega arith in ap (λ (m : ℕ). ports_text m ports) (sym e)
ports_cut k (suc j) [] = refl
ports_cut k (suc j) (port ∷ ports) =
    let e : k + 1 + j ≡ k + suc j = omega arith in
    ap (λ (bs : List ℕ). port_line k port ++ bs) (ports_cut (k + 1) j ports)
    ∙ sym (append_assoc (port_line k port) (ports_text (k + 1) (take j ports)) (ports_text (k + 1 + j) (drop j ports)))
    ∙ ap (λ (m : ℕ). port_line k port ++ ports_text (k + 1) (take j ports) ++ ports_text m (drop j ports)) e

pub changes_more : (k i : ℕ) (before now : List Word) (d : Word) → i < length before → length now ≡ length before
    → changes_text k (take (i + 1) before) (take (i + 1) now) ≡ changes_text k (take i before) (take i now) ++ change_line (k + i) (get_or before i d) (get_or now i d)
changes_more k i [] now d h s = absurd (omega arith)
changes_more k i (one ∷ before) [] d h s = absurd (omega arith)
changes_more k zero (one ∷ before) (value ∷ now) d h s = let e : k + 0 ≡ k = omega arith in rw e (append-nil (change_line k one value))
changes_more k (suc i) (one ∷ before) (value ∷ now) d h s =
    let e : k + 1 + i ≡ k + suc i = omega arith in
    let f : suc i + 1 ≡ suc (i + 1) = omega arith in
    rw f (
    ap (λ (bs : List ℕ). change_line k one value ++ bs) (changes_more (k + 1) i before now d (omega arith) (omega arith))
    ∙ sym (append_assoc (change_line k one value) (changes_text (k + 1) (take i before) (take i now)) (change_line (k + 1 + i) (get_or before i d) (get_or now i d)))
    ∙ ap (λ (j : ℕ). change_line k one value ++ changes_text (k + 1) (take i before) (take i now) ++ change_line j (get_or before i d) (get_or now i d)) e
    )

pub changes_cut : (k j : ℕ) (before now : List Word) → length now ≡ length before → changes_text k before now ≡ changes_text k (take j before) (take j now) ++ changes_text (k + j) (drop j before) (drop j now)
changes_cut k zero before now s = let e : k + 0 ≡ k = omega arith in ap (λ (m : ℕ). changes_text m before now) (sym e)
changes_cut k (suc j) [] now s = refl
changes_cut k (suc j) (one ∷ before) [] s = absurd (omega arith)
changes_cut k (suc j) (one ∷ before) (value ∷ now) s =
    let e : k + 1 + j ≡ k + suc j = omega arith in
    ap (λ (bs : List ℕ). change_line k one value ++ bs) (changes_cut (k + 1) j before now (omega arith))
    ∙ sym (append_assoc (change_line k one value) (changes_text (k + 1) (take j before) (take j now)) (changes_text (k + 1 + j) (drop j before) (drop j now)))
    ∙ ap (λ (m : ℕ). change_line k one value ++ changes_text (k + 1) (take j before) (take j now) ++ changes_text m (drop j before) (drop j now)) e

pub some_by : (i : ℕ) (before now : List Word) (d : Word) → i < length before → length now ≡ length before
    → some_change (drop i before) (drop i now) ≡ (not (nat_eq (get_or now i d).bits (get_or before i d).bits) || some_change (drop (i + 1) before) (drop (i + 1) now))
some_by i [] now d h s = absurd (omega arith)
some_by i (one ∷ before) [] d h s = absurd (omega arith)
some_by zero (one ∷ before) (value ∷ now) d h s = refl
some_by (suc i) (one ∷ before) (value ∷ now) d h s = let f : suc i + 1 ≡ suc (i + 1) = omega arith in rw f (some_by i before now d (omega arith) (omega arith))

-- ---- a line more of a list

-- a line behind those that were written
pub loop_more : {A : Type 0} (held : A → Option (List ℕ)) (faults : A → ℕ) (one two three : A) (done line next : List ℕ) → next ≡ done ++ line
    → Puts done (written_by held faults one two) true → faults one ≤ faults two → Puts line (written_by held faults two three) true → Puts next (written_by held faults one three) true
loop_more {A} held faults one two three done line next is before rises puts =
    puts_as (done ++ line) next (written_by held faults one three) true (sym is) (puts_behind held faults one two three done line true before rises puts)

-- a line that is cut off behind them
pub loop_cut : {A : Type 0} (held : A → Option (List ℕ)) (faults : A → ℕ) (one two three : A) (done line next later all : List ℕ) → next ≡ done ++ line → all ≡ next ++ later
    → Puts done (written_by held faults one two) true → faults one ≤ faults two → Puts line (written_by held faults two three) false → Puts all (written_by held faults one three) false
loop_cut {A} held faults one two three done line next later all is whole before rises puts =
    puts_as (next ++ later) all (written_by held faults one three) false (sym whole)
    (cut_front next later (written_by held faults one three) (puts_as (done ++ line) next (written_by held faults one three) false (sym is) (puts_behind held faults one two three done line false before rises puts)))

pub next_port : (n : ℕ) (ports : List DumpPort) (port : DumpPort) → port ≡ get_or ports n port → n < length ports → ports_text 0 (take (n + 1) ports) ≡ ports_text 0 (take n ports) ++ port_line n port
next_port n ports port is inside =
    let e : 0 + n ≡ n = omega arith in
    ports_more 0 n ports port inside ∙ ap (λ (p : DumpPort). ports_text 0 (take n ports) ++ port_line (0 + n) p) (sym is) ∙ ap (λ (m : ℕ). ports_text 0 (take n ports) ++ port_line m port) e

pub next_value : (n : ℕ) (row : List Word) (value : Word) → value ≡ get_or row n value → n < length row → values_text 0 (take (n + 1) row) ≡ values_text 0 (take n row) ++ value_line n value
next_value n row value is inside =
    let e : 0 + n ≡ n = omega arith in
    values_more 0 n row value inside ∙ ap (λ (v : Word). values_text 0 (take n row) ++ value_line (0 + n) v) (sym is) ∙ ap (λ (m : ℕ). values_text 0 (take n row) ++ value_line m value) e

get_or_any : (xs : List Word) (n : ℕ) (one other : Word) → n < length xs → get_or xs n one ≡ get_or xs n other
get_or_any [] n one other h = absurd (omega arith)
get_or_any (x ∷ xs) zero one other h = refl
get_or_any (x ∷ xs) (suc n) one other h = get_or_any xs n one other (omega arith)

pub next_change : (n : ℕ) (before now : List Word) (one value : Word) → one ≡ get_or before n one → value ≡ get_or now n value → n < length before → length now ≡ length before
    → changes_text 0 (take (n + 1) before) (take (n + 1) now) ≡ changes_text 0 (take n before) (take n now) ++ change_line n one value
next_change n before now one value is so inside same =
    let e : 0 + n ≡ n = omega arith in
    let front = changes_text 0 (take n before) (take n now) in
    changes_more 0 n before now one inside same
    ∙ ap (λ (v : Word). front ++ change_line (0 + n) v (get_or now n one)) (sym is)
    ∙ ap (λ (v : Word). front ++ change_line (0 + n) one v) (get_or_any now n one value (omega arith) ∙ sym so)
    ∙ ap (λ (m : ℕ). front ++ change_line m one value) e
