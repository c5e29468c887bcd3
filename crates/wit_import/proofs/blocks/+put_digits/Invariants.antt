use Rattle.wit_import.proofs.blocks.+put_digits.Given as goal

-- the digits that are left
abbrev pub decreases-put_digits : goal.decreases-put_digits
decreases-put_digits l = l.number
