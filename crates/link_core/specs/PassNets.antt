-- The link that passes each command as it is.
use Rattle.std.specs.Prelude.{◌≡◌, ◌<◌}
use Rattle.memory_links.specs.Links.{pass_form}
use Rattle.link_core.specs.Form.{Form}

-- any shape, the same on both sides, for any target
pub record IsPassForm (form : Form) : Type 0 where
  pub same : form.down ≡ form.up
  pub is : form.link ≡ pass_form form.link.target
  pub some : 0 < form.up.word_bytes
