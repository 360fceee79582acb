use Rattle.line_text.proofs.rows.+fits.Given as goal

abbrev pub decreases-fits : goal.decreases-fits
decreases-fits l = l.count
