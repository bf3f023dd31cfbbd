use Rattle.std.proofs.Common.{◌≡◌, true, codes, inl, inr, sym, ◌∙◌}
use Rattle.std.proofs.lemmas.Slice.Eq.{bytes_eq-Decides}
use Rattle.routed_modules.specs.declared.routed.Routed.TheVariants.{Gatherer}
use Rattle.task_words.proofs.routed.WordsLemmas.{packets_or}
use Rattle.task_words.proofs.routed.is_module_word.Goals as goal

pub returns-else-is_packets_word : goal.returns-else-is_packets_word
returns-else-is_packets_word c = (
  λ is. (Gatherer 0 0 0 0, sym ((bytes_eq-Decides c.args.word.now (codes "gather")).0 (sym c.eq.ensures ∙ is))),
  λ h. elim (packets_or c.args.word.now h.0 h.1) [
    | inl packets ↦ absurd (let yes = c.is_packets_word.ensures.1 (h.0, packets, h.1) in let no = c.if-is_packets_word.false in cc)
    | inr gather ↦ c.eq.ensures ∙ (bytes_eq-Decides c.args.word.now (codes "gather")).1 gather
  ],
)
