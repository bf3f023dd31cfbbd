use Rattle.std.proofs.Common.{◌≡◌, true, codes, inl, inr, sym, ◌∙◌}
use Rattle.std.proofs.lemmas.Slice.Eq.{bytes_eq-Decides}
use Rattle.routed_modules.specs.declared.routed.Routed.TheVariants.{Multiplexer, Demultiplexer}
use Rattle.task_words.proofs.routed.WordsLemmas.{packets_words}
use Rattle.task_words.proofs.routed.is_packets_word.Goals as goal

pub returns-then-eq : goal.returns-then-eq
returns-then-eq c = (λ is. (Multiplexer 0 0 0, tt, sym ((bytes_eq-Decides c.args.word.now (codes "mux")).0 (sym c.eq.ensures ∙ is))), λ h. c.if-eq.true)

pub returns-else-eq : goal.returns-else-eq
returns-else-eq c = (
  λ is. (Demultiplexer 0 0 0, tt, sym ((bytes_eq-Decides c.args.word.now (codes "demux")).0 (sym c.eq-else-eq.ensures ∙ is))),
  λ h. elim (packets_words c.args.word.now h.0 h.1 h.2) [
    | inl mux ↦ absurd (let yes : c.eq.result ≡ true = c.eq.ensures ∙ (bytes_eq-Decides c.args.word.now (codes "mux")).1 mux in let no = c.if-eq.false in cc)
    | inr demux ↦ c.eq-else-eq.ensures ∙ (bytes_eq-Decides c.args.word.now (codes "demux")).1 demux
  ],
)
