mod Domains
