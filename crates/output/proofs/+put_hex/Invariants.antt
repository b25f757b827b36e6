use Rattle.output.proofs.+put_hex.Given as goal

-- proposed from what the function passes where it calls itself
abbrev pub decreases-put_hex : goal.decreases-put_hex
decreases-put_hex l = l.k
