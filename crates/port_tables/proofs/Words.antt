-- The words for the roles of an end are distinct.
use Rattle.std.proofs.Common.{◌≡◌, inl, inr, ℕ, Bool, true, false, ◌&&◌, ◌||◌, not, cond, List, [], ◌∷◌, map, refl, subst}
use Rattle.std.specs.List.{filter}
use Rattle.std.specs.Str.{bytes_eq}
use Rattle.std.proofs.lemmas.Bool.{and_parts, or_left, or_right, false≢true}
use Rattle.std.proofs.lemmas.Slice.Eq.{bytes_eq-Decides}
use Rattle.iface_roles.specs.declared.records.Finished.{Finished}
use Rattle.iface_roles.specs.declared.records.Finished.TheVariants.{Host, Agent, Source, Sink, Other}
use Rattle.port_tables.specs.declared.roles.RolePort.{RolePort}
use Rattle.port_tables.specs.Ports.{role_word, may_have, has_bits, role_ports}
use Rattle.port_tables.specs.Lists.{Among, Distinct}

abbrev is_among : List ℕ → List (List ℕ) → Bool
is_among word [] = false
is_among word (w ∷ words) = bytes_eq w word || is_among word words

abbrev are_distinct : List (List ℕ) → Bool
are_distinct [] = true
are_distinct (w ∷ words) = not (is_among w words) && are_distinct words

among_test : (word : List ℕ) (words : List (List ℕ)) → Among word words → is_among word words ≡ true
among_test word [] h = absurd h
among_test word (w ∷ words) (inl e) = or_left (bytes_eq w word) _ ((bytes_eq-Decides w word).1 e)
among_test word (w ∷ words) (inr h) = or_right (bytes_eq w word) _ (among_test word words h)

distinct_test : (words : List (List ℕ)) → are_distinct words ≡ true → Distinct words
distinct_test [] e = tt
distinct_test (w ∷ words) e =
    let parts = and_parts (not (is_among w words)) (are_distinct words) e in (
      λ h. (let no : not true ≡ true = subst (λ b. not b ≡ true) (among_test w words h) parts.0 in false≢true no),
      distinct_test words parts.1,
    )

abbrev pub word_of : RolePort → List ℕ
word_of port = role_word port.role

pub distinct_may_have : (known : Finished) → Distinct (map word_of (may_have known))
distinct_may_have (Host host) = distinct_test (map word_of (may_have (Host host))) refl
distinct_may_have (Agent agent) = distinct_test (map word_of (may_have (Agent agent))) refl
distinct_may_have (Source source) = distinct_test (map word_of (may_have (Source source))) refl
distinct_may_have (Sink sink) = distinct_test (map word_of (may_have (Sink sink))) refl
distinct_may_have Other = tt

kept_word : (word : List ℕ) (port : RolePort) (ports : List RolePort) → (Among word (map word_of (filter has_bits ports)) → Among word (map word_of ports)) → (b : Bool)
    → Among word (map word_of (cond b (port ∷ filter has_bits ports) (filter has_bits ports))) → Among word (map word_of (port ∷ ports))
kept_word word port ports rest true (inl e) = inl e
kept_word word port ports rest true (inr h) = inr (rest h)
kept_word word port ports rest false h = inr (rest h)

among_words : (word : List ℕ) (ports : List RolePort) → Among word (map word_of (filter has_bits ports)) → Among word (map word_of ports)
among_words word [] h = h
among_words word (port ∷ ports) h = kept_word word port ports (among_words word ports) (has_bits port) h

kept_distinct : (port : RolePort) (ports : List RolePort) → (Among (word_of port) (map word_of ports) → ⊥) → Distinct (map word_of (filter has_bits ports)) → (b : Bool)
    → Distinct (map word_of (cond b (port ∷ filter has_bits ports) (filter has_bits ports)))
kept_distinct port ports new rest true = (λ h. new (among_words (word_of port) ports h), rest)
kept_distinct port ports new rest false = rest

distinct_there : (ports : List RolePort) → Distinct (map word_of ports) → Distinct (map word_of (filter has_bits ports))
distinct_there [] h = tt
distinct_there (port ∷ ports) h = kept_distinct port ports h.0 (distinct_there ports h.1) (has_bits port)

pub distinct_words : (known : Finished) → Distinct (map word_of (role_ports known))
distinct_words known = distinct_there (may_have known) (distinct_may_have known)
