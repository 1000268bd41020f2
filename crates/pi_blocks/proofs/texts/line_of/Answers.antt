use Rattle.pi_blocks.proofs.texts.line_of.Goals as goal

pub returns : goal.returns
returns c =
    rw (c.add_digits-2.ensures.items, c.add-5.ensures, c.add_digits.ensures.items, c.add-4.ensures, c.add-3.ensures, c.check_name.ensures.name, c.add-2.ensures, c.add_number.ensures.items, c.add.ensures, c.new-line.ensures)
