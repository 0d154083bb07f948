use Rattle.byte_ops.proofs.low_bits.+known_bits.Given as goal

abbrev pub decreases-known_bits : goal.decreases-known_bits
decreases-known_bits l = l.levels
