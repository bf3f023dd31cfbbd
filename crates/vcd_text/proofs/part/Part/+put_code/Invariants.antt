use Rattle.vcd_text.proofs.part.Part.+put_code.Given as goal

abbrev pub decreases-put_code : goal.decreases-put_code
decreases-put_code l = l.port
