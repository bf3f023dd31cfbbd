use Rattle.std.proofs.Common.{[], ◌++◌, codes, string_bytes, refl, ap}
use Rattle.std.specs.Option.{option_map_or}
use Rattle.std.proofs.lemmas.Result.{IfOk-equal}
use Rattle.map_text.specs.Text.{end_name, range_text, shares_text, entry_line, entry_line_of}
use Rattle.map_text.proofs.TextLemmas.{written_five}
use Rattle.map_text.proofs.put_entry.Goals as goal

pub returns : goal.returns
returns c =
    let system = c.args.plan.now.system in
    let entry = c.args.entry in
    let connection = c.connection_at-connection.result in
    let old = string_bytes c.args.text.now in
    let named = string_bytes c.put_end.new.text in
    let shares = shares_text entry.connection connection.shares in
    let line = ap (λ o. option_map_or (entry_line_of system entry) o []) c.connection_at-connection.ensures.is in
    IfOk-equal c.put_shares.result (string_bytes c.put_shares.new.text) (named ++ shares) (old ++ entry_line system entry) c.put_shares.ensures
    (written_five old (string_bytes c.push_str.new.self) (string_bytes c.put_range.new.text) (string_bytes c.push_str-2.new.self) named (named ++ shares) (codes "  ") (range_text entry) (codes " ") (end_name system connection.end)
    shares (entry_line system entry) c.in_ok-push_str.ensures.bytes c.in_ok-put_range.ensures c.in_ok-push_str-2.ensures.bytes c.in_ok-put_end.ensures refl line)
