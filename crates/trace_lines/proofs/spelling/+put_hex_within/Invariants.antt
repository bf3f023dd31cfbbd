use Rattle.trace_lines.proofs.spelling.+put_hex_within.Given as goal

abbrev pub decreases-put_hex_within : goal.decreases-put_hex_within
decreases-put_hex_within l = l.most
