use Rattle.sx_lex.proofs.HasReading as readings
use Rattle.sx_lex.proofs.laws.has_reading.Goals as goal

pub returns : goal.returns
returns c = readings.has_reading
