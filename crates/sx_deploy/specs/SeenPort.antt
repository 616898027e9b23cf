-- What contracts see of a port in memory.
use Rattle.sx_deploy.specs.Ties as ties
use Rattle.sx_deploy.specs.declared.ties.Port.{Port}

-- the code's port as plain data
abbrev pub port_as : Port → ties.Port
port_as p = record { owner = p.owner; port = p.port }
