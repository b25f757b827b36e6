use Rattle.copying.proofs.Writer.+put_digits.Given as goal

-- proposed from what the function passes where it calls itself
abbrev pub decreases-put_digits : goal.decreases-put_digits
decreases-put_digits l = l.k
